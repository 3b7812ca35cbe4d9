-- What a failure says of the record.
use Rattle.std.specs.Prelude.{Some, None, Ok, Err, Option, Result}
use Rattle.records.specs.declared.refusal.Refusal.{Refusal}
use Rattle.explain.specs.declared.failure.Failure.{Failure}
use Rattle.explain.specs.declared.failure.Failure.TheVariants.{Refused, Memory}

-- the refusal of the record, if it was refused: want of memory is none
abbrev pub refusal_in : {T : Type 0} → Result T Failure → Option Refusal
refusal_in (Ok x) = None
refusal_in (Err (Refused refusal)) = Some refusal
refusal_in (Err (Memory error)) = None
