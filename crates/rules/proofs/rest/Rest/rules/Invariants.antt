use Rattle.rules.specs.RuleArray.{used}
use Rattle.rules.proofs.RulesSoFar.{RulesSoFar}
use Rattle.rules.proofs.rest.Rest.rules.Given as goal

abbrev pub invariant-loop-i : goal.invariant-loop-i
invariant-loop-i l = RulesSoFar l.fn.self l.self l._i (used l.rules)
