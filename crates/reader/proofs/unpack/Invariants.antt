use Rattle.std.proofs.Common.{◌≡◌, ◌++◌, take, drop}
use Rattle.reader.specs.Parts.{numbers}
use Rattle.reader.proofs.unpack.Given as goal

abbrev pub invariant-loop-i : goal.invariant-loop-i
invariant-loop-i l = l.list ≡ take l.i (numbers l.column) ++ drop l.i l.initial.list
