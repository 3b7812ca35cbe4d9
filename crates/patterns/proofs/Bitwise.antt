-- The test of a proposition, bit by bit.
use Rattle.std.proofs.Common.{◌≡◌, ℕ, zero, suc, ◌+◌, ◌*◌, ◌/◌, ◌%◌, ◌^◌, ◌<◌, min, Bool, IsTrue, eqb, ◌↔◌, sym, ap, ◌∙◌, subst, mod-lt, div-one, arith}
use native.Mathlib.Nat.{div-add-mod, zero-div}
use lib.Arith.{bin_ind}
use lib.Bits.{bit_and, and_step, and_zero_r}
use Rattle.std.proofs.lemmas.Nat.{shr-shr, and_shr}
use Rattle.std.proofs.lemmas.Bool.{eqb-true, eq-eqb, and_parts, and_from}
use Rattle.patterns.specs.Words.{has, Bit}

-- a bit of a meet is set where both bits are
and_bit : (a b k : ℕ) → bit_and a b / 2 ^ k % 2 ≡ min (a / 2 ^ k % 2) (b / 2 ^ k % 2)
and_bit a b k =
    let x : ℕ = a / 2 ^ k in
    let y : ℕ = b / 2 ^ k in
    let e : bit_and a b / 2 ^ k ≡ bit_and x y = and_shr a b k in
    let s : bit_and x y ≡ bit_and (x / 2) (y / 2) * 2 + min (x % 2) (y % 2) = and_step x y in
    ap (λ n. n % 2) (e ∙ s) ∙ omega arith

-- bit 0, and bit k of the half
low_bit : (n : ℕ) → n / 2 ^ 0 % 2 ≡ n % 2
low_bit n = ap (λ m. m % 2) (div-one n)

half_bit : (n k : ℕ) → n / 2 / 2 ^ k % 2 ≡ n / 2 ^ (1 + k) % 2
half_bit n k = ap (λ m. m % 2) (shr-shr n 1 k)

covers : (on word : ℕ) → ((k : ℕ) → Bit on k → Bit word k) → bit_and word on ≡ on
covers =
    bin_ind (λ (n : ℕ). (word : ℕ) → ((k : ℕ) → Bit n k → Bit word k) → bit_and word n ≡ n)
    (λ word h. and_zero_r word)
    (λ n ih word h.
    let rest : bit_and (word / 2) (n / 2) ≡ n / 2 = ih (word / 2) (λ k e. half_bit word k ∙ h (1 + k) (sym (half_bit n k) ∙ e)) in
    let low : n % 2 ≡ 1 → word % 2 ≡ 1 = λ e. sym (low_bit word) ∙ h 0 (low_bit n ∙ e) in
    let least : min (word % 2) (n % 2) ≡ n % 2 = least_of (word % 2) (n % 2) (mod-lt n (omega arith)) low in
    and_step word n ∙ omega (arith, rest, least, div-add-mod n 2))
  where
    least_of : (a b : ℕ) → b < 2 → (b ≡ 1 → a ≡ 1) → min a b ≡ b
    least_of a zero h f = omega arith
    least_of a (suc b) h f = let e : a ≡ 1 = f (omega arith) in omega arith

avoids : (off word : ℕ) → ((k : ℕ) → Bit off k → Bit word k → ⊥) → bit_and word off ≡ 0
avoids =
    bin_ind (λ (n : ℕ). (word : ℕ) → ((k : ℕ) → Bit n k → Bit word k → ⊥) → bit_and word n ≡ 0)
    (λ word h. and_zero_r word)
    (λ n ih word h.
    let rest : bit_and (word / 2) (n / 2) ≡ 0 = ih (word / 2) (λ k e f. h (1 + k) (sym (half_bit n k) ∙ e) (sym (half_bit word k) ∙ f)) in
    let none : min (word % 2) (n % 2) ≡ 0 = none_of (word % 2) (n % 2) (mod-lt n (omega arith)) (mod-lt word (omega arith)) (λ e f. h 0 (low_bit n ∙ f) (low_bit word ∙ e)) in
    and_step word n ∙ omega (arith, rest, none))
  where
    none_of : (a b : ℕ) → b < 2 → a < 2 → (a ≡ 1 → b ≡ 1 → ⊥) → min a b ≡ 0
    none_of a zero h l f = omega arith
    none_of zero (suc b) h l f = omega arith
    none_of (suc a) (suc b) h l f = absurd (f (omega arith) (omega arith))

module _ (on off word : ℕ) where
  pub bitwise : IsTrue (has on off word) ↔ ((k : ℕ) → (Bit on k → Bit word k) × (Bit off k → Bit word k → ⊥))
  bitwise = (there, back)
    where
      there : IsTrue (has on off word) → (k : ℕ) → (Bit on k → Bit word k) × (Bit off k → Bit word k → ⊥)
      there t k =
          let parts = and_parts (eqb (bit_and word on) on) (eqb (bit_and word off) 0) t in
          let a : bit_and word on ≡ on = eqb-true _ _ parts.0 in
          let b : bit_and word off ≡ 0 = eqb-true _ _ parts.1 in (
            λ e. (let c : min (word / 2 ^ k % 2) (on / 2 ^ k % 2) ≡ on / 2 ^ k % 2 = sym (and_bit word on k) ∙ ap (λ n. n / 2 ^ k % 2) a in
                let l : word / 2 ^ k % 2 < 2 = mod-lt (word / 2 ^ k) (omega arith) in
                omega arith),
            λ e f. (let c : min (word / 2 ^ k % 2) (off / 2 ^ k % 2) ≡ 0 / 2 ^ k % 2 = sym (and_bit word off k) ∙ ap (λ n. n / 2 ^ k % 2) b in
                omega (arith, zero_bit k)),
          )
        where
          zero_bit : (k : ℕ) → 0 / 2 ^ k % 2 ≡ 0
          zero_bit k = ap (λ n. n % 2) (zero-div (2 ^ k))

      back : ((k : ℕ) → (Bit on k → Bit word k) × (Bit off k → Bit word k → ⊥)) → IsTrue (has on off word)
      back h = and_from _ _ (eq-eqb _ _ (covers on word (λ k. (h k).0))) (eq-eqb _ _ (avoids off word (λ k. (h k).1)))

  -- an answer that equals the test says so bit by bit
  pub bits_of : {b : Bool} → b ≡ has on off word → IsTrue b ↔ ((k : ℕ) → (Bit on k → Bit word k) × (Bit off k → Bit word k → ⊥))
  bits_of e = subst (λ (b : Bool). IsTrue b ↔ ((k : ℕ) → (Bit on k → Bit word k) × (Bit off k → Bit word k → ⊥))) (sym e) bitwise
