-- Tests in order: none finds a fault, or the first that does.
use Rattle.std.proofs.Common.{◌≡◌, ℕ, Bool, true, None}
use Rattle.graph.specs.declared.fault.Cause.{Cause}
use Rattle.graph.specs.Faults.{fault_at}
use Rattle.graph.proofs.Tests as tests
use Rattle.meanings.specs.Fields.{unless}
pub use Rattle.graph.proofs.Tests.{Pass, pass, none_more, first_here, none_below}

pub passes : (ok : Bool) (cause : Cause) (place : ℕ) → unless ok cause place ≡ None → ok ≡ true
passes ok cause place = tests.passes ok (fault_at cause place)
