-- What a watch meets on twelve turns of a loop, after four, tells whether it rejects the lasso.
use Rattle.std.proofs.Common.{◌≡◌, ℕ, zero, suc, ◌+◌, ◌-◌, ◌*◌, ◌%◌, ◌<◌, ◌≤◌, Bool, true, false, cond, not, ◌&&◌, ◌||◌, IsTrue, ◌↔◌, List, length, get_or, sym, refl, ap, ◌∙◌, subst, ap₂, inl, inr, add-zero, add-suc, mul-le-mul_right, mul_assoc, add-mul, le-mul_of_pos_right, arith}
use native.Mathlib.Nat.{mul-add-mod_self_right}
use Rattle.std.proofs.lemmas.Bool.{false≢true, lt-ltb, or_cases, or_left, or_right}
use Rattle.graph.specs.Lassos.{lasso}
use Rattle.patterns.specs.Watch.{onward, fed, after, Tinted, StaysSore, Rejects, Breaks, MarkBelow, Lawful}
use Rattle.watches.specs.declared.Told.{Told}
use Rattle.watches.specs.declared.Told.TheVariants.{Kept, Broken, Mark}
use Rattle.watches.specs.declared.Tint.{Tint}
use Rattle.watches.specs.declared.Tint.TheVariants.{Calm, Sore, Relief}
use Rattle.watches.proofs.Laws.{relax}
use Rattle.watches.proofs.Settle.{Repeats, again_many, folded, pigeons, tell, sides, in_loop, lasso_repeats}
use Rattle.watches.proofs.Watching.{clash, fed_again, fed_below, turns_repeat}
use Rattle.judging.specs.Walks.{tint_at, noted, walked, fresh, along, turned, round, rejected_at, rejected}
use Rattle.judging.specs.declared.Walk.{Walk}

-- a round of one to four turns goes into twelve
twelve : (d : ℕ) → 0 < d → d ≤ 4 → (q : ℕ) × (q * d ≡ 12)
twelve zero a b = absurd (omega arith)
twelve (suc zero) a b = (12, refl)
twelve (suc (suc zero)) a b = (6, refl)
twelve (suc (suc (suc zero))) a b = (4, refl)
twelve (suc (suc (suc (suc zero)))) a b = (3, refl)
twelve (suc (suc (suc (suc (suc d))))) a b = absurd (omega arith)

mark_of : Told → ℕ
mark_of Kept = 0
mark_of Broken = 0
mark_of (Mark m) = m

mark_of_below : (t : Told) → MarkBelow 4 t → mark_of t < 4
unfolding mark_of
mark_of_below Kept b = omega arith
mark_of_below Broken b = omega arith
mark_of_below (Mark m) b = b

-- tests of tints
sore? : Tint → Bool
sore? Calm = false
sore? Sore = true
sore? Relief = false

relief? : Tint → Bool
relief? Calm = false
relief? Sore = false
relief? Relief = true

is_sore : (t : Tint) → sore? t ≡ true → t ≡ Sore
unfolding sore?
is_sore Calm e = absurd (clash e refl)
is_sore Sore e = refl
is_sore Relief e = absurd (clash e refl)

is_relief : (t : Tint) → relief? t ≡ true → t ≡ Relief
unfolding relief?
is_relief Calm e = absurd (clash e refl)
is_relief Sore e = absurd (clash e refl)
is_relief Relief e = refl

or_false : (b : Bool) → b ≡ (b || false)
or_false true = refl
or_false false = refl

or_true : (b : Bool) → true ≡ (b || true)
or_true true = refl
or_true false = refl

noted_told : (walk : Walk) (told : Told) (t : Tint) → (noted walk told t).told ≡ told
noted_told walk told Calm = refl
noted_told walk told Sore = refl
noted_told walk told Relief = refl

noted_sore : (walk : Walk) (told : Told) (t : Tint) → (noted walk told t).sore ≡ (walk.sore || sore? t)
unfolding sore?
noted_sore walk told Calm = or_false walk.sore
noted_sore walk told Sore = or_true walk.sore
noted_sore walk told Relief = or_false walk.sore

noted_relief : (walk : Walk) (told : Told) (t : Tint) → (noted walk told t).relief ≡ (walk.relief || relief? t)
unfolding relief?
noted_relief walk told Calm = or_false walk.relief
noted_relief walk told Sore = or_false walk.relief
noted_relief walk told Relief = or_true walk.relief

module _ (step : ℕ → ℕ → Told) (tint : ℕ → ℕ → Tint) (words : ℕ → ℕ) where
  -- the tint of place i
  abbrev place_tint : ℕ → Tint
  place_tint i = tint_at tint (after step words i) (words i)

  -- a watch that has stopped says the same for ever
  stays_kept : (n d : ℕ) → fed step words n ≡ Kept → fed step words (n + d) ≡ Kept
  stays_kept n zero e = ap (fed step words) (add-zero n) ∙ e
  stays_kept n (suc d) e = ap (fed step words) (add-suc n d) ∙ ap (λ t. onward step t (words (n + d))) (stays_kept n d e)

  stays_broken : (n d : ℕ) → fed step words n ≡ Broken → fed step words (n + d) ≡ Broken
  stays_broken n zero e = ap (fed step words) (add-zero n) ∙ e
  stays_broken n (suc d) e = ap (fed step words) (add-suc n d) ∙ ap (λ t. onward step t (words (n + d))) (stays_broken n d e)

  -- a watch that stands at a mark had not stopped before
  went : (t : Told) (x m : ℕ) → onward step t x ≡ Mark m → (k : ℕ) × (t ≡ Mark k)
  went Kept x m e = absurd (let z : ◌≡◌ {A = ℕ} 0 1 = cc in omega arith)
  went Broken x m e = absurd (let z : ◌≡◌ {A = ℕ} 0 1 = cc in omega arith)
  went (Mark k) x m e = (k, refl)

  unstopped_by : (d n m : ℕ) → fed step words (n + d) ≡ Mark m → (k : ℕ) × (fed step words n ≡ Mark k)
  unstopped_by zero n m e = (m, ap (fed step words) (sym (add-zero n)) ∙ e)
  unstopped_by (suc d) n m e =
      let b = went (fed step words (n + d)) (words (n + d)) m (ap (fed step words) (sym (add-suc n d)) ∙ e) in
      unstopped_by d n b.0 b.1

  unstopped : (n o m : ℕ) → n ≤ o → fed step words o ≡ Mark m → (k : ℕ) × (fed step words n ≡ Mark k)
  unstopped n o m h e = let s : n + (o - n) ≡ o = omega arith in unstopped_by (o - n) n m (ap (fed step words) s ∙ e)

  -- a walk over the words from place s on
  module _ (before : Walk) (w : ℕ → ℕ) (s : ℕ) (told : before.told ≡ fed step words s) where
    walked_told : (n : ℕ) → ((i : ℕ) → i < n → w i ≡ words (s + i)) → (walked step tint before w n).told ≡ fed step words (s + n)
    walked_told zero h = told ∙ ap (fed step words) (sym (add-zero s))
    walked_told (suc n) h =
        let rest = walked_told n (λ i lt. h i (omega arith)) in
        noted_told (walked step tint before w n) _ _ ∙ ap₂ (onward step) rest (h n (omega arith)) ∙ ap (fed step words) (sym (add-suc s n))

    module _ (flag : Walk → Bool) (test : Tint → Bool) (says : (walk : Walk) (t : Told) (c : Tint) → flag (noted walk t c) ≡ (flag walk || test c)) where
      flag_more : (n : ℕ) → ((i : ℕ) → i < suc n → w i ≡ words (s + i))
          → flag (walked step tint before w (suc n)) ≡ (flag (walked step tint before w n) || test (place_tint (s + n)))
      flag_more n h =
          let rest = walked_told n (λ i lt. h i (omega arith)) in
          let here = h n (omega arith) in
          says (walked step tint before w n) _ _ ∙ ap (λ c. flag (walked step tint before w n) || test c) (ap₂ (tint_at tint) (ap₂ (onward step) rest here) here)

      -- a flag that is up was raised at some place
      raised : flag before ≡ false → (n : ℕ) → ((i : ℕ) → i < n → w i ≡ words (s + i)) → flag (walked step tint before w n) ≡ true
          → (i : ℕ) × (i < n) × (test (place_tint (s + i)) ≡ true)
      raised down zero h e = absurd (clash e down)
      raised down (suc n) h e = elim (or_cases _ _ (sym (flag_more n h) ∙ e)) [
        | inl up ↦ (let (i, lt, f) = raised down n (λ i lt. h i (omega arith)) up in (i, omega arith, f))
        | inr up ↦ (n, omega arith, up)
      ]

      raises : (n : ℕ) → ((i : ℕ) → i < n → w i ≡ words (s + i)) → (i : ℕ) → i < n → test (place_tint (s + i)) ≡ true → flag (walked step tint before w n) ≡ true
      raises zero h i lt e = absurd (omega arith)
      raises (suc n) h i lt e = flag_more n h ∙ elim (sides i n) [
        | inl less ↦ or_left _ _ (raises n (λ i lt. h i (omega arith)) i less e)
        | inr le ↦ (let same : i ≡ n = omega arith in or_right _ _ (ap (λ k. test (place_tint (s + k))) (sym same) ∙ e))
      ]

-- both flags that a walk ends with
flags : (sore relief : Bool) → IsTrue (sore && not relief) → (sore ≡ true) × (relief ≡ false)
flags true true t = absurd (false≢true t)
flags true false t = (refl, refl)
flags false relief t = absurd (false≢true t)

flagged : (sore relief : Bool) → sore ≡ true → relief ≡ false → IsTrue (sore && not relief)
flagged sore relief e f = subst (λ b. IsTrue (b && not relief)) (sym e) (subst (λ b. IsTrue (true && not b)) (sym f) refl)

module _ (step : ℕ → ℕ → Told) (tint : ℕ → ℕ → Tint) (bounded : (m x : ℕ) → MarkBelow 4 (step m x)) (stem loop : List ℕ) (some : 0 < length loop) where
  abbrev words : ℕ → ℕ
  words = lasso stem loop

  abbrev ring : ℕ → ℕ
  ring i = get_or loop (i % length loop) 0

  -- the place where the twelve turns begin
  abbrev begin : ℕ
  begin = length stem + 4 * length loop

  abbrev end : ℕ
  end = begin + 12 * length loop

  -- two turns that begin with the same answer: so do the turns from then on, round by round
  rounds : (i j : ℕ) → i < j → j ≤ 4 → fed step words (length stem + j * length loop) ≡ fed step words (length stem + i * length loop) → fed step words end ≡ fed step words begin
  rounds i j less few same =
      let n : ℕ = length loop in
      let d : ℕ = j - i in
      let there : length stem + i * n + d * n ≡ length stem + j * n = omega (arith, add-mul i d n, ap (λ k. k * n) (i_plus_d i j less)) in
      let early : i * n ≤ 4 * n = mul-le-mul_right n (omega arith) in
      let round : Repeats (fed step words) = record {
        from = length stem + i * n;
        span = d * n;
        real = (let pos : d ≤ d * n = le-mul_of_pos_right d some in omega arith);
        again = fed_again step words (λ x. x) (lasso_repeats stem loop some) (length stem + i * n) d (omega arith) (ap (fed step words) there ∙ same);
      } in
      let (q, whole) = twelve d (omega arith) (omega arith) in
      let far : end ≡ begin + q * (d * n) = omega (arith, sym (mul_assoc q d n) ∙ ap (λ k. k * n) whole) in
      ap (fed step words) far ∙ again_many round q begin (omega arith)
    where
      i_plus_d : (i j : ℕ) → i < j → i + (j - i) ≡ j
      i_plus_d i j h = omega arith

  -- among five turns two begin with the same mark
  round_from : (t : Told) → fed step words begin ≡ t → fed step words end ≡ fed step words begin
  unfolding mark_of
  round_from Kept e = stays_kept step tint words begin (12 * length loop) e ∙ sym e
  round_from Broken e = stays_broken step tint words begin (12 * length loop) e ∙ sym e
  round_from (Mark m) e =
      twins m e (pigeons 4 (λ k. mark_of (fed step words (length stem + k * length loop))) (λ k h. mark_of_below _ (fed_below step words (λ x. x) bounded (length stem + k * length loop))))
    where
      marked : (m : ℕ) → fed step words begin ≡ Mark m → (k : ℕ) → k ≤ 4 → (x : ℕ) × (fed step words (length stem + k * length loop) ≡ Mark x)
      marked m e k h =
          let early : k * length loop ≤ 4 * length loop = mul-le-mul_right (length loop) h in
          unstopped step tint words (length stem + k * length loop) begin m (omega arith) e

      twins : (m : ℕ) → fed step words begin ≡ Mark m → (i : ℕ) × (j : ℕ) × (i < j) × (j ≤ 4) × (mark_of (fed step words (length stem + i * length loop)) ≡ mark_of (fed step words (length stem + j * length loop)))
          → fed step words end ≡ fed step words begin
      twins m e (i, j, less, few, same) =
          let a = marked m e i (omega arith) in
          let b = marked m e j few in
          rounds i j less few (b.1 ∙ ap Mark (sym (ap mark_of b.1) ∙ sym same ∙ ap mark_of a.1) ∙ sym a.1)

  comes_round : fed step words end ≡ fed step words begin
  comes_round = round_from (fed step words begin) refl

  -- the watch and the words from there on
  abbrev place : ℕ → Told × ℕ
  place i = (after step words i, words i)

  again : Repeats {A = Told × ℕ} place
  again = turns_repeat step words (λ x. x) (lasso_repeats stem loop some) begin 12 (omega arith) (omega arith) comes_round

  fed_round : Repeats (fed step words)
  fed_round = record {
    from = begin;
    span = 12 * length loop;
    real = omega arith;
    again = fed_again step words (λ x. x) (lasso_repeats stem loop some) begin 12 (omega arith) comes_round;
  }

  -- a watch that stands at a mark there never stops
  endless : (m : ℕ) → fed step words begin ≡ Mark m → (i : ℕ) → (k : ℕ) × (after step words i ≡ Mark k)
  unfolding fed_round
  endless m e i =
      let far : suc i ≤ suc i * (12 * length loop) = le-mul_of_pos_right (suc i) (omega arith) in
      unstopped step tint words (suc i) (begin + suc i * (12 * length loop)) m (omega arith) (again_many fed_round (suc i) begin (omega arith) ∙ e)

  kept_not_rejected : fed step words end ≡ Kept → Rejects step tint words → ⊥
  kept_not_rejected e (inl (i, b)) =
      let k = stays_kept step tint words end (suc i) e in
      let s : end + suc i ≡ suc i + end = omega arith in
      let l = ap (fed step words) s ∙ stays_broken step tint words (suc i) end b in
      let z : ◌≡◌ {A = ℕ} 0 1 = cc in omega arith
  kept_not_rejected e (inr f) =
      let (m, o) = f.open_ended (end - 1) in
      let s : suc (end - 1) ≡ end = omega arith in
      let l = ap (fed step words) (sym s) ∙ o in
      let z : ◌≡◌ {A = ℕ} 0 1 = cc in omega arith

  -- the tint of a place, by what the watch says there
  tint_seen : (t : Tint) (i : ℕ) → Tinted step tint words t i → place_tint step tint words i ≡ t
  tint_seen t i (m, e, f) = ap (λ a. tint_at tint a (words i)) e ∙ f

  seen_tint : (t : Tint) (i : ℕ) → (m : ℕ) × (after step words i ≡ Mark m) → place_tint step tint words i ≡ t → Tinted step tint words t i
  seen_tint t i (m, e) f = (m, e, ap (λ a. tint_at tint a (words i)) (sym e) ∙ f)

  tint_again : (n i : ℕ) → begin ≤ i → place_tint step tint words (i + n * (12 * length loop)) ≡ place_tint step tint words i
  unfolding again
  tint_again n i h = ap (λ a. tint_at tint a.0 a.1) (again_many again n i h)

  tint_folded : (i : ℕ) → begin ≤ i → (j : ℕ) × (j < 12 * length loop) × (place_tint step tint words i ≡ place_tint step tint words (begin + j))
  unfolding again
  tint_folded i h =
      let (j, le, lt, e) = folded again i h in
      let there : j ≡ begin + (j - begin) = omega arith in
      (j - begin, omega arith, ap (λ a. tint_at tint a.0 a.1) (e ∙ ap place there))

  -- a walk of twelve turns from there
  module _ (fresh : Walk) (told : fresh.told ≡ fed step words begin) (no_sore : fresh.sore ≡ false) (no_relief : fresh.relief ≡ false) where
    abbrev late : Walk
    late = walked step tint fresh ring (12 * length loop)

    on_loop : (i : ℕ) → i < 12 * length loop → ring i ≡ words (begin + i)
    on_loop i h =
        let at : (begin + i) - length stem ≡ 4 * length loop + i = omega arith in
        sym (in_loop stem loop (begin + i) (omega arith) ∙ ap (λ k. get_or loop (k % length loop) 0) at ∙ ap (λ k. get_or loop k 0) (mul-add-mod_self_right 4 (length loop) i))

    stays_sore : (m : ℕ) → fed step words begin ≡ Mark m → late.sore ≡ true → late.relief ≡ false → StaysSore step tint words
    unfolding sore? relief?
    stays_sore m e up down = record {
      open_ended = endless m e;
      sore = λ n.
          let (i, lt, s) = raised step tint words fresh ring begin told (λ w. w.sore) sore? noted_sore no_sore (12 * length loop) on_loop up in
          let far : n ≤ n * (12 * length loop) = le-mul_of_pos_right n (omega arith) in
          let far_place : ℕ = begin + i + n * (12 * length loop) in
          (far_place, omega arith, seen_tint Sore far_place (endless m e far_place) (tint_again n (begin + i) (omega arith) ∙ is_sore _ s));
      unrelieved = (
        begin,
        λ i h t.
            let (j, lt, f) = tint_folded i h in
            clash (raises step tint words fresh ring begin told (λ w. w.relief) relief? noted_relief (12 * length loop) on_loop j lt (ap relief? (sym f ∙ tint_seen Relief i t))) down,
      );
    }

    sore_met : StaysSore step tint words → late.sore ≡ true
    unfolding sore?
    sore_met f =
        let (i, h, t) = f.sore begin in
        let (j, lt, e) = tint_folded i h in
        raises step tint words fresh ring begin told (λ w. w.sore) sore? noted_sore (12 * length loop) on_loop j lt (ap sore? (sym e ∙ tint_seen Sore i t))

    no_relief_met : (m : ℕ) → fed step words begin ≡ Mark m → StaysSore step tint words → late.relief ≡ false
    no_relief_met m e f = elim (tell late.relief) [
      | inr down ↦ down
      | inl up ↦ (
          let (i, lt, s) = raised step tint words fresh ring begin told (λ w. w.relief) relief? noted_relief no_relief (12 * length loop) on_loop up in
          let (k, quiet) = f.unrelieved in
          let far : k ≤ k * (12 * length loop) = le-mul_of_pos_right k (omega arith) in
          let far_place : ℕ = begin + i + k * (12 * length loop) in
          absurd (quiet far_place (omega arith) (seen_tint Relief far_place (endless m e far_place) (tint_again k (begin + i) (omega arith) ∙ is_relief _ s)))
          )
    ]

    round_tells : (t : Told) → fed step words end ≡ t → IsTrue (rejected_at t late.sore late.relief) ↔ Rejects step tint words
    round_tells Kept e = (λ t. absurd (false≢true t), λ r. absurd (kept_not_rejected e r))
    round_tells Broken e = (
      λ _. inl (end - 1, (let s : suc (end - 1) ≡ end = omega arith in ap (fed step words) s ∙ e)),
      λ _. refl,
    )
    round_tells (Mark m) e =
        let here : fed step words begin ≡ Mark m = sym comes_round ∙ e in (
          λ t. (let (up, down) = flags late.sore late.relief t in inr (stays_sore m here up down)),
          λ r. elim r [
            | inl (i, b) ↦ absurd (let (k, o) = endless m here i in let z : ◌≡◌ {A = ℕ} 0 1 = cc in omega arith)
            | inr f ↦ flagged _ _ (sore_met f) (no_relief_met m here f)
          ],
        )

    pub round_rejects : IsTrue (rejected late) ↔ Rejects step tint words
    round_rejects =
        let t = walked_told step tint words fresh ring begin told (12 * length loop) on_loop in
        subst (λ (a : Told). IsTrue (rejected_at a late.sore late.relief) ↔ Rejects step tint words) (sym t) (round_tells _ refl)

-- a walk over the stem and four turns stands where the twelve turns begin
module _ (step : ℕ → ℕ → Told) (tint : ℕ → ℕ → Tint) (stem loop : List ℕ) where
  settled : (turned step tint (along step tint (fresh (Mark 0)) stem) loop 4).told ≡ fed step (lasso stem loop) (length stem + 4 * length loop)
  settled =
      let first = walked_told step tint (lasso stem loop) (fresh (Mark 0)) (λ i. get_or stem i 0) 0 refl (length stem) (λ i h. let same : 0 + i ≡ i = omega arith in sym (ap (lasso stem loop) same ∙ in_stem i h)) in
      let none : 0 + length stem ≡ length stem = omega arith in
      walked_told step tint (lasso stem loop) (along step tint (fresh (Mark 0)) stem) (λ i. get_or loop (i % length loop) 0) (length stem) (first ∙ ap (fed step (lasso stem loop)) none) (4 * length loop)
      (λ i h.
      let at : (length stem + i) - length stem ≡ i = omega arith in
      sym (in_loop stem loop (length stem + i) (omega arith) ∙ ap (λ k. get_or loop (k % length loop) 0) at))
    where
      in_stem : (i : ℕ) → i < length stem → lasso stem loop i ≡ get_or stem i 0
      in_stem i h = ap (λ b. cond b (get_or stem i 0) (get_or loop ((i - length stem) % length loop) 0)) (lt-ltb i (length stem) h)

-- the pattern's law, at a lasso that was walked
pub judged : {count : ℕ} {keeps : (ℕ → ℕ) → Type 0} {step : ℕ → ℕ → Told} {tint : ℕ → ℕ → Tint} → count ≤ 4 → Lawful count keeps step tint → (stem loop : List ℕ) → 0 < length loop
    → (walk : Walk) (b : Bool) → walk ≡ round step tint stem loop → b ≡ rejected walk → IsTrue b ↔ Breaks keeps (lasso stem loop)
judged {step = step} {tint = tint} few law stem loop some walk b walked told =
    let e : b ≡ rejected (round step tint stem loop) = told ∙ ap rejected walked in
    let (to, from) = round_rejects step tint (relax few law).below stem loop some (fresh _) (settled step tint stem loop) refl refl in
    let (caught, breaks) = law.rejects stem loop some in
    (λ t. breaks (to (subst IsTrue e t)), λ broken. subst IsTrue (sym e) (from (caught broken)))
