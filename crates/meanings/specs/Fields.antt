-- The first fault of several tests of a field.
use Rattle.std.specs.Prelude.{ℕ, Bool, List, length, Option, nat_le}
use Rattle.graph.specs.declared.fault.Cause.{Cause}
use Rattle.graph.specs.declared.fault.Cause.TheVariants.{Short}
use Rattle.graph.specs.declared.fault.Fault.{Fault}
use Rattle.graph.specs.Faults.{fault_at}
use Rattle.graph.specs.Tests.{error_unless}
pub use Rattle.graph.specs.Tests.{or_else, first_below}

-- what a test finds
abbrev pub unless : Bool → Cause → ℕ → Option Fault
unless ok cause place = error_unless ok (fault_at cause place)

-- the bytes up to an offset are there
abbrev pub reach : List ℕ → ℕ → Option Fault
reach b end = unless (nat_le end (length b)) Short (length b)
