-- The number of each cause, a fault on its way up, and both as a person reads them.
use Rattle.std.specs.Prelude.{ℕ, ◌+◌, min, List, ◌++◌, codes, decimal}
use Rattle.graph.specs.declared.fault.Cause.{Cause}
use Rattle.graph.specs.declared.fault.Cause.TheVariants.{Short, MapBit, Range, RowEnd, Target, LeftOver, Mask}
use Rattle.graph.specs.declared.fault.Fault.{Fault}

abbrev pub cause_number : Cause → ℕ
cause_number Short = 1
cause_number MapBit = 2
cause_number Range = 3
cause_number RowEnd = 4
cause_number Target = 5
cause_number LeftOver = 6
cause_number Mask = 7

-- a fault where it arises has passed no layer
abbrev pub fault_at : Cause → ℕ → Fault
fault_at cause place = record { cause = cause; place = place; height = 0 }

-- a fault that has passed one more layer: the height stops at 255
abbrev pub raised : Fault → Fault
raised f = record { cause = f.cause; place = f.place; height = min 255 (f.height + 1) }

-- in words
abbrev pub cause_words : Cause → List ℕ
cause_words Short = codes "the bytes end inside a field"
cause_words MapBit = codes "a map bit without a field"
cause_words Range = codes "a value outside its range"
cause_words RowEnd = codes "a row end out of order"
cause_words Target = codes "a target that is not a state"
cause_words LeftOver = codes "bytes left over"
cause_words Mask = codes "a rule's mask out of range, or a bit both set and cleared"

abbrev pub fault_text : Fault → List ℕ
fault_text f = decimal (cause_number f.cause) ++ (codes " at " ++ (decimal f.place ++ (codes " height " ++ decimal f.height)))
