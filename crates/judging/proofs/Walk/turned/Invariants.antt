use Rattle.std.proofs.Common.{◌≡◌, ◌*◌, ◌%◌, length, get_or}
use Rattle.judging.specs.Walks.{walked}
use Rattle.judging.proofs.Walk.turned.Given as goal

abbrev pub invariant-loop : goal.invariant-loop
invariant-loop g l = l.walk ≡ walked (g.P.Pattern.step l.pattern) (g.P.Pattern.tint l.pattern) l.initial.walk (λ i. get_or l.cycle (i % length l.cycle) 0) (l.counter * length l.cycle)
