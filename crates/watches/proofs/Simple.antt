-- The grounds of the three watches with one mark.
use Rattle.std.specs.Prelude.{◌≡◌, ℕ, suc, ◌<◌, Bool, true, false, refl}
use Rattle.std.proofs.Common.{inl, inr, arith}
use Rattle.watches.specs.Rules.{At, KeepsAlways, KeepsEventual, KeepsUntil}
use Rattle.watches.specs.Tables.{always_row, eventual_row, until_row}
use Rattle.watches.specs.declared.Tint.TheVariants.{Calm, Sore}
use Rattle.watches.proofs.Settle.{sides, one_more}
use Rattle.watches.proofs.Watching.{Grounds, Means, clash}

module _ (q : ℕ → Bool) (w : ℕ → ℕ) where
  abbrev KeptSoFar : ℕ → ℕ → Type 0
  KeptSoFar n m = (i : ℕ) → i < n → At q w i

  always_goes : (n m : ℕ) (b : Bool) → q (w n) ≡ b → KeptSoFar n m → Means (KeepsAlways q w) (KeptSoFar (suc n)) (always_row b)
  always_goes n m true e r = one_more (At q w) n r e
  always_goes n m false e r = λ k. clash (k n) e

  pub always_grounds : Grounds (KeepsAlways q w) (λ m x. always_row (q x)) (λ m x. Calm) w KeptSoFar
  always_grounds = record {
    start = λ i h. absurd (omega arith);
    goes = λ n m r. always_goes n m (q (w n)) refl r;
    healed = λ mark r k h i. r (suc i) i (omega arith);
    relieved = λ mark r h i. r (suc i) i (omega arith);
    sour = λ mark r sore k h. absurd (let z : ◌≡◌ {A = ℕ} 0 1 = cc (sore 0).2 in omega arith);
  }

  abbrev NotYet : ℕ → ℕ → Type 0
  NotYet n m = (i : ℕ) → i < n → q (w i) ≡ false

  eventual_goes : (n m : ℕ) (b : Bool) → q (w n) ≡ b → NotYet n m → Means (KeepsEventual q w) (NotYet (suc n)) (eventual_row b)
  eventual_goes n m true e r = (n, e)
  eventual_goes n m false e r = one_more (λ i. q (w i) ≡ false) n r e

  pub eventual_grounds : Grounds (KeepsEventual q w) (λ m x. eventual_row (q x)) (λ m x. Sore) w NotYet
  eventual_grounds = record {
    start = λ i h. absurd (omega arith);
    goes = λ n m r. eventual_goes n m (q (w n)) refl r;
    healed = λ mark r k h. absurd (h k (omega arith) refl);
    relieved = λ mark r h. absurd (let z : ◌≡◌ {A = ℕ} 0 1 = cc (h 0).2 in omega arith);
    sour = λ mark r sore k h c. clash c.1 (r (suc c.0) c.0 (omega arith));
  }

module _ (p q : ℕ → Bool) (w : ℕ → ℕ) where
  abbrev OnlyP : ℕ → ℕ → Type 0
  OnlyP n m = (i : ℕ) → i < n → (p (w i) ≡ true) × (q (w i) ≡ false)

  until_goes : (n m : ℕ) (a b : Bool) → p (w n) ≡ a → q (w n) ≡ b → OnlyP n m → Means (KeepsUntil p q w) (OnlyP (suc n)) (until_row a b)
  until_goes n m a true e f r = (n, f, λ j h. (r j h).0)
  until_goes n m true false e f r = one_more (λ i. (p (w i) ≡ true) × (q (w i) ≡ false)) n r (e, f)
  until_goes n m false false e f r = λ c. elim (sides c.0 n) [
    | inl h ↦ clash c.1 (r c.0 h).1
    | inr h ↦ elim (sides n c.0) [ inl k ↦ clash (c.2 n k) e | inr k ↦ (let same : c.0 ≡ n = omega arith in clash (rw same at c.1) f) ]
  ]

  pub until_grounds : Grounds (KeepsUntil p q w) (λ m x. until_row (p x) (q x)) (λ m x. Sore) w OnlyP
  until_grounds = record {
    start = λ i h. absurd (omega arith);
    goes = λ n m r. until_goes n m (p (w n)) (q (w n)) refl refl r;
    healed = λ mark r k h. absurd (h k (omega arith) refl);
    relieved = λ mark r h. absurd (let z : ◌≡◌ {A = ℕ} 0 1 = cc (h 0).2 in omega arith);
    sour = λ mark r sore k h c. clash c.1 (r (suc c.0) c.0 (omega arith)).1;
  }
