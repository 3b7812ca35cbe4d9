-- The law of a watch from grounds that speak of marks alone.
use Rattle.std.specs.Prelude.{◌≡◌, ℕ, zero, suc, ◌+◌, ◌-◌, ◌*◌, ◌<◌, ◌≤◌, Bool, true, false, ◌⊎◌, ◌≢◌, refl}
use Rattle.std.proofs.Math.Logic.{inl, inr}
use Rattle.std.proofs.Math.Path.{sym, ap, subst}
use Rattle.std.proofs.Common.{◌∙◌, ap₂, add-mul, le-mul_of_pos_right, arith}
use Rattle.watches.specs.Watch.{onward, fed, after, StaysSore, Rejects, MarkBelow}
use Rattle.watches.specs.declared.Told.{Told}
use Rattle.watches.specs.declared.Told.TheVariants.{Kept, Broken, Mark}
use Rattle.watches.specs.declared.Tint.{Tint}
use Rattle.watches.specs.declared.Tint.TheVariants.{Calm, Sore, Relief}
use Rattle.watches.proofs.Settle.{Repeats, again_many, pigeons, settle, some_or_none}

-- what an answer says of the path rule; of a mark, that it is reached
abbrev pub Means : Type 0 → (ℕ → Type 0) → Told → Type 0
Means keeps reached Kept = keeps
Means keeps reached Broken = keeps → ⊥
Means keeps reached (Mark m) = reached m

-- What a pattern shows of one sequence. `reach n m` is what mark m after n words says of the sequence.
-- The last three are of a watch that never stops; `mark n` is its mark after n words.
pub record Grounds (keeps : Type 0) (step : ℕ → ℕ → Told) (tint : ℕ → ℕ → Tint) (words : ℕ → ℕ) (reach : ℕ → ℕ → Type 0) : Type 0 where
  pub start : reach 0 0
  pub goes : (n m : ℕ) → reach n m → Means keeps (reach (suc n)) (step m (words n))
  pub healed : (mark : ℕ → ℕ) → ((n : ℕ) → reach n (mark n)) → (k : ℕ) → ((i : ℕ) → k ≤ i → tint (mark (suc i)) (words i) ≢ Sore) → keeps
  pub relieved : (mark : ℕ → ℕ) → ((n : ℕ) → reach n (mark n)) → ((n : ℕ) → (i : ℕ) × (n ≤ i) × (tint (mark (suc i)) (words i) ≡ Relief)) → keeps
  pub sour : (mark : ℕ → ℕ) → ((n : ℕ) → reach n (mark n)) → ((n : ℕ) → (i : ℕ) × (n ≤ i) × (tint (mark (suc i)) (words i) ≡ Sore))
      → (k : ℕ) → ((i : ℕ) → k ≤ i → tint (mark (suc i)) (words i) ≢ Relief) → keeps → ⊥

-- tests on answers
code : Told → ℕ
code Kept = 0
code Broken = 1
code (Mark m) = suc (suc m)

decode : ℕ → Told
decode zero = Kept
decode (suc zero) = Broken
decode (suc (suc m)) = Mark m

broken? : Told → Bool
broken? Kept = false
broken? Broken = true
broken? (Mark m) = false

kept? : Told → Bool
kept? Kept = true
kept? Broken = false
kept? (Mark m) = false

is_broken : (t : Told) → broken? t ≡ true → t ≡ Broken
unfolding broken?
is_broken Kept e = absurd (let z : ◌≡◌ {A = ℕ} 0 1 = cc in omega arith)
is_broken Broken e = refl
is_broken (Mark m) e = absurd (let z : ◌≡◌ {A = ℕ} 0 1 = cc in omega arith)

is_kept : (t : Told) → kept? t ≡ true → t ≡ Kept
unfolding kept?
is_kept Kept e = refl
is_kept Broken e = absurd (let z : ◌≡◌ {A = ℕ} 0 1 = cc in omega arith)
is_kept (Mark m) e = absurd (let z : ◌≡◌ {A = ℕ} 0 1 = cc in omega arith)

is_mark : (t : Told) → kept? t ≡ false → broken? t ≡ false → (m : ℕ) × (t ≡ Mark m)
unfolding kept? broken?
is_mark Kept e f = absurd (let z : ◌≡◌ {A = ℕ} 0 1 = cc in omega arith)
is_mark Broken e f = absurd (let z : ◌≡◌ {A = ℕ} 0 1 = cc in omega arith)
is_mark (Mark m) e f = (m, refl)

code_small : (t : Told) → MarkBelow 4 t → code t < 6
unfolding code
code_small Kept b = omega arith
code_small Broken b = omega arith
code_small (Mark m) b = omega arith

decode_code : (t : Told) → decode (code t) ≡ t
unfolding code decode
decode_code Kept = refl
decode_code Broken = refl
decode_code (Mark m) = refl

code_same : (s t : Told) → code s ≡ code t → s ≡ t
code_same s t e = sym (decode_code s) ∙ ap decode e ∙ decode_code t

-- A watch over a sequence of states by their words. The states may be the words themselves.
module _ {A : Type 0} (step : ℕ → ℕ → Told) (state : ℕ → A) (word : A → ℕ) where
  abbrev words : ℕ → ℕ
  words i = word (state i)

  -- where the watch repeats after n turns from a place in the loop, it repeats so from each later place
  fed_on : (r : Repeats state) (s n : ℕ) → r.from ≤ s → fed step words (s + n * r.span) ≡ fed step words s
      → (d : ℕ) → fed step words (s + d + n * r.span) ≡ fed step words (s + d)
  fed_on r s n h e zero =
      let a : s + 0 + n * r.span ≡ s + n * r.span = omega arith in
      let b : s ≡ s + 0 = omega arith in
      ap (fed step words) a ∙ e ∙ ap (fed step words) b
  fed_on r s n h e (suc d) =
      let a : s + suc d + n * r.span ≡ suc (s + d + n * r.span) = omega arith in
      let b : suc (s + d) ≡ s + suc d = omega arith in
      ap (fed step words) a
      ∙ ap₂ (onward step) (fed_on r s n h e d) (ap word (again_many r n (s + d) (omega arith)))
      ∙ ap (fed step words) b

  pub fed_again : (r : Repeats state) (s n : ℕ) → r.from ≤ s → fed step words (s + n * r.span) ≡ fed step words s
      → (i : ℕ) → s ≤ i → fed step words (i + n * r.span) ≡ fed step words i
  fed_again r s n late same i h = let e : s + (i - s) ≡ i = omega arith in rw e at (fed_on r s n late same (i - s))

  -- so the watch and the states repeat together
  abbrev pub turns_repeat : (r : Repeats state) (s n : ℕ) → 0 < n → r.from ≤ s → fed step words (s + n * r.span) ≡ fed step words s
      → Repeats {A = Told × A} (λ i. (after step words i, state i))
  turns_repeat r s n some late same = record {
    from = s;
    span = n * r.span;
    real = (let pos : n ≤ n * r.span = le-mul_of_pos_right n r.real in omega arith);
    again = λ i h t.
        (ap₂ (onward step) (fed_again r s n late same i h) (ap word (again_many r n i (omega arith))) t, again_many r n i (omega arith) t);
  }

  module _ (bounded : (m x : ℕ) → MarkBelow 4 (step m x)) where
    onward_below : (t : Told) (x : ℕ) → MarkBelow 4 t → MarkBelow 4 (onward step t x)
    onward_below Kept x b = tt
    onward_below Broken x b = tt
    onward_below (Mark m) x b = bounded m x

    pub fed_below : (n : ℕ) → MarkBelow 4 (fed step words n)
    fed_below zero = omega arith
    fed_below (suc n) = onward_below (fed step words n) (words n) (fed_below n)

    -- a watch over a sequence that repeats repeats too: among seven turns two begin with the same answer
    pub watch_repeats : Repeats state → Repeats {A = Told × A} (λ i. (after step words i, state i))
    watch_repeats r =
        let turn : ℕ → ℕ = λ k. r.from + k * r.span in
        let same = pigeons 6 (λ k. code (fed step words (turn k))) (λ k h. code_small _ (fed_below (turn k))) in
        let n : ℕ = same.1 - same.0 in
        let sum : same.0 + n ≡ same.1 = omega arith in
        let there : turn same.0 + n * r.span ≡ turn same.1 = omega (arith, add-mul same.0 n r.span, ap (λ k. k * r.span) sum) in
        turns_repeat r (turn same.0) n (omega arith) (omega arith) (ap (fed step words) there ∙ sym (code_same _ _ same.4))

-- tests on tints, at a told answer
tint_of : (ℕ → ℕ → Tint) → Told × ℕ → Tint
tint_of tint (Kept, word) = Calm
tint_of tint (Broken, word) = Calm
tint_of tint (Mark m, word) = tint m word

sore? : Tint → Bool
sore? Calm = false
sore? Sore = true
sore? Relief = false

relief? : Tint → Bool
relief? Calm = false
relief? Sore = false
relief? Relief = true

is_sore : (t : Tint) → sore? t ≡ true → t ≡ Sore
unfolding sore?
is_sore Calm e = absurd (let z : ◌≡◌ {A = ℕ} 0 1 = cc in omega arith)
is_sore Sore e = refl
is_sore Relief e = absurd (let z : ◌≡◌ {A = ℕ} 0 1 = cc in omega arith)

is_relief : (t : Tint) → relief? t ≡ true → t ≡ Relief
unfolding relief?
is_relief Calm e = absurd (let z : ◌≡◌ {A = ℕ} 0 1 = cc in omega arith)
is_relief Sore e = absurd (let z : ◌≡◌ {A = ℕ} 0 1 = cc in omega arith)
is_relief Relief e = refl

pub clash : {b : Bool} → b ≡ true → b ≢ false
clash e f = let z : ◌≡◌ {A = ℕ} 0 1 = cc in omega arith

pub mark_same : (t : Told) (m n : ℕ) → t ≡ Mark m → t ≡ Mark n → m ≡ n
mark_same t m n e f = cc

module _ {keeps : Type 0} {step : ℕ → ℕ → Told} {tint : ℕ → ℕ → Tint} {words : ℕ → ℕ} {reach : ℕ → ℕ → Type 0} (g : Grounds keeps step tint words reach) where
  next_means : (n : ℕ) (t : Told) → Means keeps (reach n) t → Means keeps (reach (suc n)) (onward step t (words n))
  next_means n Kept k = k
  next_means n Broken b = b
  next_means n (Mark m) r = g.goes n m r

  means : (n : ℕ) → Means keeps (reach n) (fed step words n)
  means zero = g.start
  means (suc n) = next_means n (fed step words n) (means n)

  -- a watch that never stops, by its marks
  mark_at : ((i : ℕ) → (m : ℕ) × (after step words i ≡ Mark m)) → ℕ → ℕ
  mark_at o zero = 0
  mark_at o (suc i) = (o i).0

  reached : (o : (i : ℕ) → (m : ℕ) × (after step words i ≡ Mark m)) (n : ℕ) → reach n (mark_at o n)
  unfolding mark_at
  reached o zero = g.start
  reached o (suc i) = subst (Means keeps (reach (suc i))) (o i).1 (means (suc i))

  pub from_rejects : Rejects step tint words → keeps → ⊥
  unfolding mark_at
  from_rejects (inl (i, e)) = subst (Means keeps (reach (suc i))) e (means (suc i))
  from_rejects (inr f) =
      let o = f.open_ended in
      g.sour (mark_at o) (reached o)
      (λ n. let s = f.sore n in
      let same : s.2.0 ≡ (o s.0).0 = mark_same _ _ _ s.2.1 (o s.0).1 in
      (s.0, s.1, rw same at s.2.2))
      f.unrelieved.0 (λ i h e. f.unrelieved.1 i h ((o i).0, (o i).1, e))

  -- a watch that never stops: its tints tell whether the rule is kept
  tells : Repeats {A = Told × ℕ} (λ i. (after step words i, words i)) → ((i : ℕ) → (m : ℕ) × (after step words i ≡ Mark m))
      → keeps ⊎ StaysSore step tint words
  unfolding sore? relief? mark_at tint_of
  tells r o = elim (settle r (λ a. sore? (tint_of tint a))) [
    | inr (k, late) ↦ inl (g.healed (mark_at o) (reached o) k (λ i h e. clash (ap sore? (seen i ∙ e)) (late i h)))
    | inl sores ↦ elim (settle r (λ a. relief? (tint_of tint a))) [
      | inl often ↦ inl (g.relieved (mark_at o) (reached o) (λ n. let s = often n in (s.0, s.1, sym (seen s.0) ∙ is_relief _ s.2)))
      | inr (k, late) ↦ inr (record {
        open_ended = o;
        sore = λ n. let s = sores n in (s.0, s.1, ((o s.0).0, (o s.0).1, sym (seen s.0) ∙ is_sore _ s.2));
        unrelieved = (
          k,
          λ i h t.
              let same : t.0 ≡ (o i).0 = mark_same _ _ _ t.1 (o i).1 in
              clash (ap relief? (seen i ∙ rw same at t.2)) (late i h),
        );
      })
    ]
  ]
    where
      seen : (i : ℕ) → tint_of tint (after step words i, words i) ≡ tint (mark_at o (suc i)) (words i)
      seen i = ap (λ t. tint_of tint (t, words i)) (o i).1

  -- the rule is kept, or the watch rejects the sequence
  pub verdict : ((m word : ℕ) → MarkBelow 4 (step m word)) → Repeats words → keeps ⊎ Rejects step tint words
  verdict bounded r =
      let w = watch_repeats step words (λ x. x) bounded r in
      elim (some_or_none _ (settle w (λ a. broken? a.0))) [
        | inl (i, e) ↦ inr (inl (i, is_broken _ e))
        | inr unbroken ↦ elim (some_or_none _ (settle w (λ a. kept? a.0))) [
          | inl (i, e) ↦ inl (subst (Means keeps (reach (suc i))) (is_kept _ e) (means (suc i)))
          | inr unkept ↦ elim (tells w (λ i. is_mark _ (unkept i) (unbroken i))) [ inl k ↦ inl k | inr f ↦ inr (inr f) ]
        ]
      ]
