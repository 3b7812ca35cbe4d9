-- Tests in order: the first that fails gives the error.
use Rattle.std.specs.Prelude.{ℕ, zero, suc, Bool, if◌then◌else◌, List, [], ◌∷◌, Some, None, Option}

-- the error of a test that does not pass
abbrev pub error_unless : {E : Type 0} → Bool → E → Option E
error_unless ok error = if ok then None else Some error

abbrev pub or_else : {E : Type 0} → Option E → Option E → Option E
or_else None next = next
or_else (Some error) next = Some error

-- the first error of several tests
abbrev pub first_error : {E : Type 0} → List (Option E) → Option E
first_error [] = None
first_error (test ∷ tests) = or_else test (first_error tests)

-- and of those of the places below n
abbrev pub first_below : {E : Type 0} → ℕ → (ℕ → Option E) → Option E
first_below zero test = None
first_below (suc n) test = or_else (first_below n test) (test n)
