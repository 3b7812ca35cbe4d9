-- For the six patterns a lasso that does not break the rule keeps it.
use Rattle.std.proofs.Common.{ℕ, ◌<◌, Bool, true, false, not, IsTrue, ◌↔◌, List, length, inl, inr, refl}
use mathlib.Core.Logic.{∥∥₁_elim}
use lib.Dec.{T_prop}
use Rattle.std.proofs.lemmas.Bool.{false≢true}
use Rattle.graph.specs.Lassos.{lasso}
use Rattle.patterns.specs.Chosen.{AnyKeeps}
use Rattle.patterns.specs.Watch.{Breaks}
use Rattle.patterns.specs.declared.any.AnyPattern.{AnyPattern}
use Rattle.patterns.proofs.Decided.{any_decided}

module _ (x : AnyPattern) (stem loop : List ℕ) (some : 0 < length loop) where
  pub unbroken : (b : Bool) → IsTrue b ↔ Breaks (AnyKeeps x) (lasso stem loop) → IsTrue (not b) ↔ ∥ AnyKeeps x (lasso stem loop) ∥₁
  unbroken true breaks = (λ t. absurd (false≢true t), λ kept. absurd (∥∥₁_elim kept (T_prop false) (breaks.0 refl)))
  unbroken false breaks = (
    λ _. elim (any_decided x stem loop some) [ inl kept ↦ ∣ kept ∣₁ | inr broken ↦ absurd (false≢true (breaks.1 broken)) ],
    λ _. refl,
  )
