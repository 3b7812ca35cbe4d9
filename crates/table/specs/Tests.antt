-- What comes of tests that are made one after the other.
use Rattle.std.specs.Prelude.{ℕ, ◌<◌, Result, Ok, Err, OnOk, IfErr}
use Rattle.graph.specs.declared.fault.Fault.{Fault}

-- r is what a test at each place below n gives: each passed, or the fault is that of the first that did not
pub record IsFirstFault (test : ℕ → Result (Unit {0}) Fault → Type 0) (n : ℕ) (r : Result (Unit {0}) Fault) : Type 0 where
  pub passed : OnOk r ((k : ℕ) → k < n → test k (Ok tt))
  pub failed : IfErr r (λ f. (k : ℕ) × (k < n) × test k (Err f) × ((i : ℕ) → i < k → test i (Ok tt)))
