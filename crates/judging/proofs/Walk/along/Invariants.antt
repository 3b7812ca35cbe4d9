use Rattle.std.proofs.Common.{◌≡◌, get_or}
use Rattle.judging.specs.Walks.{walked}
use Rattle.judging.proofs.Walk.along.Given as goal

abbrev pub invariant-loop-word : goal.invariant-loop-word
invariant-loop-word g l = l.walk ≡ walked (g.P.Pattern.step l.pattern) (g.P.Pattern.tint l.pattern) l.initial.walk (λ i. get_or l.words i 0) l.word-index
