-- The graph of a list of rules keeps the laws of a graph.
use Rattle.std.proofs.Common.{◌≡◌, ℕ, zero, suc, ◌^◌, ◌<◌, ◌≤◌, true, false, cond, ◌&&◌, eqb, ltb, List, [], ◌∷◌, length, is_some, Some, None, sym, ◌∙◌, inl, inr, arith, pow_mono}
use lib.Bits.{bit_and, bit_or, bit_xor, and_le_l, or_lt}
use Rattle.std.proofs.lemmas.Bool.{and_parts, cond-true, cond-false, cases_lt, cases_eq, ltb-true, lt-ltb, le-ltb, eq-eqb, ne_eqb}
use Rattle.graph.specs.Graph.{Sound}
use Rattle.std.proofs.lemmas.Option.{none-some}
use Rattle.meanings.specs.declared.Rule.{Rule}
use Rattle.meanings.specs.RuleList.{rule_ok, all_ok, applies, moved, targets, nth, resting, ruled}

targets_few : (rs : List Rule) (s : ℕ) → length (targets rs s) ≤ length rs
targets_few [] s = omega arith
targets_few (r ∷ rs) s =
    elim (applies r s) as (λ v. length (cond v (moved r s ∷ targets rs s) (targets rs s)) ≤ suc (length rs)) [
      | true ↦ omega (arith, targets_few rs s)
      | false ↦ omega (arith, targets_few rs s)
    ]

resting_some : (s : ℕ) (ts : List ℕ) → 1 ≤ length (resting s ts)
resting_some s [] = omega arith
resting_some s (t ∷ ts) = omega arith

resting_few : (s n : ℕ) (ts : List ℕ) → length ts ≤ n → length (resting s ts) ≤ cond (eqb n 0) 1 n
resting_few s n ts h = elim (cases_eq n 0) [ inl e ↦ go ts h (cond-true (eqb n 0) 1 n (eq-eqb n 0 e)) (omega (arith, e)) | inr ne ↦ by ts h (cond-false (eqb n 0) 1 n (ne_eqb n 0 ne)) ne ]
  where
    go : (ts : List ℕ) → length ts ≤ n → cond (eqb n 0) 1 n ≡ 1 → n ≤ 0 → length (resting s ts) ≤ cond (eqb n 0) 1 n
    go [] h e z = omega (arith, e)
    go (t ∷ ts) h e z = absurd (omega arith)

    by : (ts : List ℕ) → length ts ≤ n → cond (eqb n 0) 1 n ≡ n → (n ≡ 0 → ⊥) → length (resting s ts) ≤ cond (eqb n 0) 1 n
    by [] h e ne = omega (arith, e, ne)
    by (t ∷ ts) h e ne = omega (arith, e)

ltb_suc : (a b : ℕ) → ltb a b ≡ ltb (suc a) (suc b)
ltb_suc a b = elim (cases_lt a b) [
  | inl l ↦ lt-ltb a b l ∙ sym (lt-ltb (suc a) (suc b) (omega arith))
  | inr g ↦ le-ltb a b g ∙ sym (le-ltb (suc a) (suc b) (omega arith))
]

nth_there : (xs : List ℕ) (j : ℕ) → is_some (nth xs j) ≡ ltb j (length xs)
nth_there [] j = sym (le-ltb j 0 (omega arith))
nth_there (x ∷ xs) zero = sym (lt-ltb 0 (suc (length xs)) (omega arith))
nth_there (x ∷ xs) (suc j) = nth_there xs j ∙ ltb_suc j (length xs)

-- every element below n
abbrev Under : ℕ → List ℕ → Type 0
Under n [] = Unit {0}
Under n (x ∷ xs) = (x < n) × Under n xs

nth_under : (n : ℕ) (xs : List ℕ) (j t : ℕ) → Under n xs → nth xs j ≡ Some t → t < n
nth_under n [] j t u e = absurd (none-some _ e)
nth_under n (x ∷ xs) zero t u e = let same : x ≡ t = cc in omega (arith, same, u.0)
nth_under n (x ∷ xs) (suc j) t u e = nth_under n xs j t u.1 e

targets_under : (bits : ℕ) (rs : List Rule) (s : ℕ) → s < 2 ^ bits → all_ok bits rs ≡ true → Under (2 ^ bits) (targets rs s)
targets_under bits [] s l ok = tt
targets_under bits (r ∷ rs) s l ok =
    let p = and_parts (rule_ok bits r) (all_ok bits rs) ok in
    let under = targets_under bits rs s l p.1 in
    elim (applies r s) as (λ v. Under (2 ^ bits) (cond v (moved r s ∷ targets rs s) (targets rs s))) [
      | true ↦ (moved_under p.0, under)
      | false ↦ under
    ]
  where
    moved_under : rule_ok bits r ≡ true → moved r s < 2 ^ bits
    moved_under e =
        let p = and_parts (ltb r.on (2 ^ bits)) (ltb r.off (2 ^ bits) && (ltb r.set (2 ^ bits) && (ltb r.clear (2 ^ bits) && eqb (bit_and r.set r.clear) 0))) e in
        let q = and_parts (ltb r.off (2 ^ bits)) (ltb r.set (2 ^ bits) && (ltb r.clear (2 ^ bits) && eqb (bit_and r.set r.clear) 0)) p.1 in
        let t = and_parts (ltb r.set (2 ^ bits)) (ltb r.clear (2 ^ bits) && eqb (bit_and r.set r.clear) 0) q.1 in
        omega (arith, and_le_l (bit_or s r.set) (bit_xor 65535 r.clear), or_lt bits s r.set l (ltb-true r.set (2 ^ bits) t.0))

resting_under : (n s : ℕ) (ts : List ℕ) → s < n → Under n ts → Under n (resting s ts)
resting_under n s [] l u = (l, tt)
resting_under n s (t ∷ ts) l u = u

pub ruled_sound : (bits start : ℕ) (rs : List Rule) → bits ≤ 10 → start < 2 ^ bits → length rs ≤ 64 → all_ok bits rs ≡ true → Sound (ruled bits start rs)
ruled_sound bits start rs low inside few ok = record {
  by_fault = record {
    some_state = omega (arith, inside);
    few_states = pow_mono low;
    narrow = elim (eqb (length rs) 0) as (λ v. cond v 1 (length rs) ≤ 32768) [ true ↦ omega arith | false ↦ omega (arith, few) ];
  };
  there = λ s j.
      elim (ltb s (2 ^ bits)) as (λ v. is_some (cond v (nth (out s) j) None) ≡ ltb j (cond v (length (out s)) 0)) [
        | true ↦ nth_there (out s) j
        | false ↦ sym (le-ltb j 0 (omega arith))
      ];
  below = λ s j t e. elim (cases_lt s (2 ^ bits)) [
    | inl l ↦ nth_under (2 ^ bits) (out s) j t (resting_under (2 ^ bits) s (targets rs s) l (targets_under bits rs s l ok)) (sym (cond-true (ltb s (2 ^ bits)) (nth (out s) j) None (lt-ltb s (2 ^ bits) l)) ∙ e)
    | inr g ↦ absurd (none-some _ (sym (sym e ∙ cond-false (ltb s (2 ^ bits)) (nth (out s) j) None (le-ltb s (2 ^ bits) g))))
  ];
  few_arrows = λ s. elim (cases_lt s (2 ^ bits)) [
    | inl l ↦ omega (arith, in_degree s l, resting_few s (length rs) (targets rs s) (targets_few rs s))
    | inr g ↦ omega (arith, out_degree s g)
  ];
  total = λ s h. omega (arith, in_degree s h, resting_some s (targets rs s));
  not_initial = λ s h. ne_eqb s start (λ e. omega (arith, e, h, inside));
  no_word = λ s h. cond-false (ltb s (2 ^ bits)) s 0 (le-ltb s (2 ^ bits) h);
  no_arrow = out_degree;
}
  where
    out : ℕ → List ℕ
    out s = resting s (targets rs s)

    in_degree : (s : ℕ) → s < 2 ^ bits → (ruled bits start rs).degree s ≡ length (out s)
    in_degree s h = cond-true (ltb s (2 ^ bits)) (length (out s)) 0 (lt-ltb s (2 ^ bits) h)

    out_degree : (s : ℕ) → 2 ^ bits ≤ s → (ruled bits start rs).degree s ≡ 0
    out_degree s h = cond-false (ltb s (2 ^ bits)) (length (out s)) 0 (le-ltb s (2 ^ bits) h)
