-- The fault of tests made one after the other is the first of what the tests find.
use Rattle.std.proofs.Common.{◌≡◌, ℕ, zero, suc, ◌<◌, None, Ok, Err, Option, Result, sym, refl, arith}
use Rattle.std.specs.Result.{result_err}
use Rattle.graph.specs.declared.fault.Fault.{Fault}
use Rattle.meanings.specs.Fields.{first_below}
use Rattle.meanings.proofs.Firsts.{first_here}
use Rattle.table.specs.Tests.{IsFirstFault}

none_from : (found : ℕ → Option Fault) (n : ℕ) → ((k : ℕ) → k < n → found k ≡ None) → first_below n found ≡ None
none_from found zero h = refl
none_from found (suc n) h = rw (none_from found n (λ k l. h k (omega arith)), h n (omega arith))

pub first_fault : {test : ℕ → Result (Unit {0}) Fault → Type 0} {n : ℕ} (r : Result (Unit {0}) Fault) (found : ℕ → Option Fault) → IsFirstFault test n r → ((k : ℕ) (a : Result (Unit {0}) Fault) → k < n → test k a → result_err a ≡ found k) → result_err r ≡ first_below n found
first_fault (Ok u) found each finds = sym (none_from found _ (λ k l. sym (finds k (Ok tt) l (each.passed k l))))
first_fault (Err f) found each finds =
    let w = each.failed in
    let before = none_from found w.0 (λ i l. sym (finds i (Ok tt) (omega (arith, w.1)) (w.3 i l))) in
    sym (first_here found w.0 _ f before (sym (finds w.0 (Err f) w.1 w.2)) w.1)
