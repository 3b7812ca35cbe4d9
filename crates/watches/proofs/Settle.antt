-- A sequence that repeats settles every test of its places: the test passes again and again, or no more from some place on.
use Rattle.std.specs.Prelude.{◌≡◌, ℕ, zero, suc, pred, ◌+◌, ◌-◌, ◌*◌, ◌/◌, ◌%◌, ◌<◌, ◌≤◌, min, max, Bool, true, false, cond, ◌⊎◌, List, length, ◌==◌, nat_eq, nat_lt, slice_index, refl}
use Rattle.std.proofs.Common.{inl, inr, sym, ◌∙◌, ap, subst, mod-lt, le-mul_of_pos_right, suc-mul, arith, eqb-true, ltb-true, ltb-false}
use Rattle.std.proofs.Math.Nat.{div-add-mod, add-mul-mod_self_right}
use Rattle.std.proofs.lemmas.Bool.{eqb-false}
use Rattle.graph.specs.Lassos.{lasso}

-- which of the two a test came to
pub tell : (b : Bool) → (b ≡ true) ⊎ (b ≡ false)
tell true = inl refl
tell false = inr refl

-- one place is before the other, or not
pub sides : (i n : ℕ) → (i < n) ⊎ (n ≤ i)
sides i n = elim (tell (nat_lt i n)) [ inl e ↦ inl (ltb-true i n e) | inr e ↦ inr (ltb-false i n e) ]

-- one place more
pub one_more : (P : ℕ → Type 0) (n : ℕ) → ((i : ℕ) → i < n → P i) → P n → (i : ℕ) → i < suc n → P i
one_more P n all here i h = elim (sides i n) [ inl lt ↦ all i lt | inr le ↦ (let e : n ≡ i = omega arith in subst P e here) ]

-- a search below a bound
abbrev pub Below : (ℕ → Bool) → ℕ → Type 0
Below b n = ((i : ℕ) × (i < n) × (b i ≡ true)) ⊎ ((i : ℕ) → i < n → b i ≡ false)

below_suc : (b : ℕ → Bool) (n : ℕ) → Below b n → (b n ≡ true) ⊎ (b n ≡ false) → Below b (suc n)
below_suc b n (inl (i, h, e)) t = inl (i, omega arith, e)
below_suc b n (inr none) (inl e) = inl (n, omega arith, e)
below_suc b n (inr none) (inr e) = inr (one_more (λ i. b i ≡ false) n none e)

pub below : (b : ℕ → Bool) (n : ℕ) → Below b n
below b zero = inr (λ i h. absurd (omega arith))
below b (suc n) = below_suc b n (below b n) (tell (b n))

-- among n + 1 numbers below n two are equal
closer : ℕ → ℕ → ℕ
closer v x = min x (max v (pred x))

abbrev Twins : (ℕ → ℕ) → ℕ → Type 0
Twins f n = (i : ℕ) × (j : ℕ) × (i < j) × (j ≤ n) × (f i ≡ f j)

pub pigeons : (n : ℕ) (f : ℕ → ℕ) → ((i : ℕ) → i ≤ n → f i < n) → Twins f n
unfolding closer
pigeons zero f h = let z : f 0 < 0 = h 0 (omega arith) in absurd (omega arith)
pigeons (suc n) f h =
    let v : ℕ = f (suc n) in
    let top : v < suc n = h (suc n) (omega arith) in
    let rest : Twins (λ i. closer v (f i)) n → ((i : ℕ) → i < suc n → (f i == v) ≡ false) → Twins f (suc n)
    = (λ t apart. let ni : f t.0 ≡ v → ⊥ = eqb-false _ _ (apart t.0 (omega arith)) in
    let nj : f t.1 ≡ v → ⊥ = eqb-false _ _ (apart t.1 (omega arith)) in
    (t.0, t.1, t.2, omega arith, omega arith)) in
    elim (below (λ i. nat_eq (f i) v) (suc n)) [
      | inl (i, lt, e) ↦ (i, suc n, lt, omega arith, eqb-true (f i) v e)
      | inr apart ↦ rest (pigeons n (λ i. closer v (f i)) (λ i le.
          let a : f i < suc n = h i (omega arith) in
          let ne : f i ≡ v → ⊥ = eqb-false (f i) v (apart i (omega arith)) in
          omega arith)) apart
    ]

-- a sequence that repeats itself from a place on
pub record Repeats {A : Type 0} (f : ℕ → A) : Type 0 where
  pub from : ℕ
  pub span : ℕ
  pub real : 0 < span
  pub again : (i : ℕ) → from ≤ i → f (i + span) ≡ f i

module _ {A : Type 0} {f : ℕ → A} (r : Repeats f) where
  pub again_many : (n i : ℕ) → r.from ≤ i → f (i + n * r.span) ≡ f i
  again_many zero i h = let e : i + 0 * r.span ≡ i = omega arith in ap f e
  again_many (suc n) i h =
      let e : i + suc n * r.span ≡ (i + n * r.span) + r.span = omega (arith, suc-mul n r.span) in
      ap f e ∙ r.again (i + n * r.span) (omega arith) ∙ again_many n i h

  -- each later place is like one of the first span
  pub folded : (i : ℕ) → r.from ≤ i → (j : ℕ) × (r.from ≤ j) × (j < r.from + r.span) × (f i ≡ f j)
  folded i h =
      let d : ℕ = i - r.from in
      let small : d % r.span < r.span = mod-lt d r.real in
      let e : i ≡ r.from + d % r.span + (d / r.span) * r.span = omega (arith, div-add-mod d r.span) in
      (r.from + d % r.span, omega arith, omega arith, ap f e ∙ again_many (d / r.span) (r.from + d % r.span) (omega arith))

-- a test passes again and again
abbrev pub Often : (ℕ → Bool) → Type 0
Often b = (n : ℕ) → (i : ℕ) × (n ≤ i) × (b i ≡ true)

-- from some place on it fails
abbrev pub Ceases : (ℕ → Bool) → Type 0
Ceases b = (k : ℕ) × ((i : ℕ) → k ≤ i → b i ≡ false)

pub settle : {A : Type 0} {f : ℕ → A} → Repeats f → (b : A → Bool) → Often (λ i. b (f i)) ⊎ Ceases (λ i. b (f i))
settle {A} {f} r b = elim (below (λ i. b (f (r.from + i))) r.span) [
  | inl (i, h, e) ↦ inl (λ n. (
    r.from + i + n * r.span,
    omega (arith, le-mul_of_pos_right n r.real),
    ap b (again_many r n (r.from + i) (omega arith)) ∙ e,
  ))
  | inr none ↦ inr (
    r.from,
    λ i h.
        let (j, le, lt, e) = folded r i h in
        let there : r.from + (j - r.from) ≡ j = omega arith in
        ap b (e ∙ ap f (sym there)) ∙ none (j - r.from) (omega arith),
  )
]

-- some place passes, or each fails
pub some_or_none : (b : ℕ → Bool) → Often b ⊎ Ceases b → ((i : ℕ) × (b i ≡ true)) ⊎ ((i : ℕ) → b i ≡ false)
some_or_none b (inl often) = inl ((often 0).0, (often 0).2)
some_or_none b (inr (k, late)) = elim (below b k) [
  | inl (i, h, e) ↦ inl (i, e)
  | inr early ↦ inr (λ i. elim (sides i k) [ inl h ↦ early i h | inr h ↦ late i h ])
]

-- a lasso repeats
pub in_loop : (stem loop : List ℕ) (i : ℕ) → length stem ≤ i → lasso stem loop i ≡ slice_index loop ((i - length stem) % length loop)
in_loop stem loop i h = elim (tell (nat_lt i (length stem))) [
  | inl e ↦ absurd (let lt : i < length stem = ltb-true _ _ e in omega arith)
  | inr e ↦ ap (λ b. cond b (slice_index stem i) (slice_index loop ((i - length stem) % length loop))) e
]

abbrev pub lasso_repeats : (stem loop : List ℕ) → 0 < length loop → Repeats (lasso stem loop)
lasso_repeats stem loop h = record {
  from = length stem;
  span = length loop;
  real = h;
  again = λ i le.
      let turn : (i + length loop) - length stem ≡ (i - length stem) + 1 * length loop = omega arith in
      in_loop stem loop (i + length loop) (omega arith)
      ∙ ap (λ k. slice_index loop k) (ap (λ k. k % length loop) turn ∙ add-mul-mod_self_right (i - length stem) 1 (length loop))
      ∙ sym (in_loop stem loop i le);
}
