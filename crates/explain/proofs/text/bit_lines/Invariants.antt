use Rattle.std.proofs.Common.{◌≡◌, string_bytes}
use Rattle.explain.specs.Text.{bit_lines}
use Rattle.explain.proofs.text.bit_lines.Given as goal

abbrev pub invariant-loop-bit : goal.invariant-loop-bit
invariant-loop-bit l = string_bytes l.text ≡ bit_lines l.p l.bit
