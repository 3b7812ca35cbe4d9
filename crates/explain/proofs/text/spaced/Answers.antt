use Rattle.std.proofs.Common.{◌++◌, codes, decimal, get_or, ◌∙◌}
use Rattle.explain.proofs.Spaces.{spaced_more}
use Rattle.explain.proofs.text.spaced.Goals as goal

pub loop-state-preserved : goal.loop-state-preserved
loop-state-preserved c =
    let xs = c.args.states.now in
    let k = c.loop-state.state-index in
    c.in_ok-write.ensures.bytes ∙ (λ i. c.loop-state.invariant i ++ (codes " " ++ decimal (get_or xs k 0)))
    ∙ spaced_more xs k c.loop-state-test.true
