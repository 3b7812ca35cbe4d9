use Rattle.judging.proofs.Walking.{walked_turn}
use Rattle.judging.proofs.Walk.turned.Goals as goal

pub loop-preserved : goal.loop-preserved
loop-preserved g c = walked_turn _ _ c.args.cycle.now _ c.loop.walk _ c.loop.counter c.along-walk.ensures c.loop.invariant
