use Rattle.std.proofs.Common.{◌≡◌, take, string_bytes}
use Rattle.explain.specs.Text.{spaced}
use Rattle.explain.proofs.text.spaced.Given as goal

abbrev pub invariant-loop-state : goal.invariant-loop-state
invariant-loop-state l = string_bytes l.text ≡ spaced (take l.state-index l.states)
