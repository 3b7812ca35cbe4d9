-- The law of each of the six watches, from its grounds.
use Rattle.std.specs.Prelude.{◌≡◌, ℕ, ◌<◌, ◌≤◌, Bool, true, false, ◌⊎◌, List, length, ◌==◌, refl}
use Rattle.std.proofs.Common.{ap, arith, eqb-true, inl, inr}
use Rattle.watches.specs.Watch.{Lawful, Breaks, Rejects, MarkBelow}
use Rattle.watches.specs.Rules.{KeepsAlways, KeepsEventual, KeepsUntil, KeepsUntilStable, KeepsLeadsTo, KeepsConditionalStable}
use Rattle.watches.specs.Tables.{always_row, eventual_row, until_row, until_stable_row, until_stable_tint, leads_to_row, leads_to_tint, conditional_stable_row, conditional_stable_tint}
use Rattle.graph.specs.Lassos.{lasso}
use Rattle.watches.specs.declared.Told.{Told}
use Rattle.watches.specs.declared.Told.TheVariants.{Kept, Broken, Mark}
use Rattle.watches.specs.declared.Tint.{Tint}
use Rattle.watches.specs.declared.Tint.TheVariants.{Calm, Sore}
use Rattle.watches.proofs.Settle.{tell, lasso_repeats}
use Rattle.watches.proofs.Watching.{Grounds, from_rejects, verdict}
use Rattle.watches.proofs.Simple.{always_grounds, eventual_grounds, until_grounds}
use Rattle.watches.proofs.Marked.{until_stable_grounds, leads_to_grounds, conditional_stable_grounds}

widen : (a b : ℕ) → a ≤ b → (t : Told) → MarkBelow a t → MarkBelow b t
widen a b h Kept k = tt
widen a b h Broken k = tt
widen a b h (Mark m) k = omega arith

-- a watch with few marks is one with more
pub relax : {a b : ℕ} {keeps : (ℕ → ℕ) → Type 0} {step : ℕ → ℕ → Told} {tint : ℕ → ℕ → Tint} → a ≤ b → Lawful a keeps step tint → Lawful b keeps step tint
relax {a} {b} h law = record {
  below = λ m word. widen a b h _ (law.below m word);
  beyond = λ m word le. law.beyond m word (omega arith);
  rejects = law.rejects;
}

module _ {count : ℕ} {keeps : (ℕ → ℕ) → Type 0} {step : ℕ → ℕ → Told} {tint : ℕ → ℕ → Tint} {reach : (ℕ → ℕ) → ℕ → ℕ → Type 0}
    (few : count ≤ 4) (below : (m word : ℕ) → MarkBelow count (step m word)) (grounds : (w : ℕ → ℕ) → Grounds (keeps w) step tint w (reach w)) where
  told : (stem loop : List ℕ) → 0 < length loop → keeps (lasso stem loop) ⊎ Rejects step tint (lasso stem loop)
  told stem loop h = verdict (grounds (lasso stem loop)) (λ m word. widen count 4 few _ (below m word)) (lasso_repeats stem loop h)

  -- each lasso keeps the rule or breaks it: so for the six, and no part of the law
  pub decided : (stem loop : List ℕ) → 0 < length loop → keeps (lasso stem loop) ⊎ Breaks keeps (lasso stem loop)
  decided stem loop h = elim (told stem loop h) [ inl k ↦ inl k | inr c ↦ inr (from_rejects (grounds (lasso stem loop)) c) ]

  lawful : ((m word : ℕ) → count ≤ m → (step m word ≡ step 0 word) × (tint m word ≡ tint 0 word)) → Lawful count keeps step tint
  lawful beyond = record {
    below = below;
    beyond = beyond;
    rejects = λ stem loop h. (
      λ no. elim (told stem loop h) [ inl k ↦ absurd (no k) | inr c ↦ c ],
      from_rejects (grounds (lasso stem loop)),
    );
  }

pub always_below : (b : Bool) → MarkBelow 1 (always_row b)
always_below true = omega arith
always_below false = tt

pub eventual_below : (b : Bool) → MarkBelow 1 (eventual_row b)
eventual_below true = tt
eventual_below false = omega arith

pub until_below : (a b : Bool) → MarkBelow 1 (until_row a b)
until_below a true = tt
until_below true false = omega arith
until_below false false = tt

pub until_stable_below : (one a b : Bool) → MarkBelow 2 (until_stable_row one a b)
until_stable_below false true b = omega arith
until_stable_below false false true = omega arith
until_stable_below false false false = tt
until_stable_below true a true = omega arith
until_stable_below true a false = tt

pub leads_to_below : (one a b : Bool) → MarkBelow 2 (leads_to_row one a b)
leads_to_below false true false = omega arith
leads_to_below false true true = omega arith
leads_to_below false false b = omega arith
leads_to_below true a true = omega arith
leads_to_below true a false = omega arith

pub conditional_stable_below : (one a : Bool) → MarkBelow 2 (conditional_stable_row one a)
conditional_stable_below false true = omega arith
conditional_stable_below false false = omega arith
conditional_stable_below true a = omega arith

-- a mark that is not below 2 is not 1
not_one : (m : ℕ) → 2 ≤ m → (m == 1) ≡ false
not_one m h = elim (tell (m == 1)) [ inl e ↦ absurd (let same : m ≡ 1 = eqb-true m 1 e in omega arith) | inr e ↦ e ]

pub always_law : (q : ℕ → Bool) → Lawful 1 (KeepsAlways q) (λ m x. always_row (q x)) (λ m x. Calm)
always_law q = lawful (omega arith) (λ m x. always_below (q x)) (always_grounds q) (λ m x h. (refl, refl))

pub eventual_law : (q : ℕ → Bool) → Lawful 1 (KeepsEventual q) (λ m x. eventual_row (q x)) (λ m x. Sore)
eventual_law q = lawful (omega arith) (λ m x. eventual_below (q x)) (eventual_grounds q) (λ m x h. (refl, refl))

module _ (p q : ℕ → Bool) where
  pub until_law : Lawful 1 (KeepsUntil p q) (λ m x. until_row (p x) (q x)) (λ m x. Sore)
  until_law = lawful (omega arith) (λ m x. until_below (p x) (q x)) (until_grounds p q) (λ m x h. (refl, refl))

  pub until_stable_law : Lawful 2 (KeepsUntilStable p q) (λ m x. until_stable_row (m == 1) (p x) (q x)) (λ m x. until_stable_tint (m == 1) (q x))
  until_stable_law = lawful (omega arith) (λ m x. until_stable_below (m == 1) (p x) (q x)) (until_stable_grounds p q) (λ m x h. (ap (λ b. until_stable_row b (p x) (q x)) (not_one m h), ap (λ b. until_stable_tint b (q x)) (not_one m h)))

  pub leads_to_law : Lawful 2 (KeepsLeadsTo p q) (λ m x. leads_to_row (m == 1) (p x) (q x)) (λ m x. leads_to_tint (m == 1))
  leads_to_law = lawful (omega arith) (λ m x. leads_to_below (m == 1) (p x) (q x)) (leads_to_grounds p q) (λ m x h. (ap (λ b. leads_to_row b (p x) (q x)) (not_one m h), ap leads_to_tint (not_one m h)))

  pub conditional_stable_law : Lawful 2 (KeepsConditionalStable p q) (λ m x. conditional_stable_row (m == 1) (p x)) (λ m x. conditional_stable_tint (m == 1) (q x))
  conditional_stable_law = lawful (omega arith) (λ m x. conditional_stable_below (m == 1) (p x)) (conditional_stable_grounds p q) (λ m x h. (ap (λ b. conditional_stable_row b (p x)) (not_one m h), ap (λ b. conditional_stable_tint b (q x)) (not_one m h)))
