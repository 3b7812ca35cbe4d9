use Rattle.std.proofs.lemmas.Result.{err_from_is_err_and}
use Rattle.rules.proofs.RulesSoFar.{rule_more, fault_found}
use Rattle.rules.proofs.rest.Rest.rules.Goals as goal

pub returns-in_err-rule-clause-fault : goal.returns-in_err-rule-clause-fault
returns-in_err-rule-clause-fault c =
    let p = err_from_is_err_and c.from_residual.result c.from_residual.ensures.1 in
    rw (p.1, p.2) (fault_found _ _ _ _ c.loop-i.invariant c.args.count c.in_err-rule.field-0.0 c.in_err-rule.ensures.fault c.loop-i-test.true)

pub loop-i-preserved : goal.loop-i-preserved
loop-i-preserved c =
    let rule = c.in_ok-rule.ensures in
    simp c.push.ensures (rule_more _ _ _ _ c.loop-i.invariant c.rule.new.self c.in_ok-rule.field-0 rule.fault rule.read rule.fits rule.same)
