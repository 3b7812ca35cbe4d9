use Rattle.std.proofs.Common.{get_or}
use Rattle.judging.proofs.Walking.{walked_next}
use Rattle.judging.proofs.Walk.along.Goals as goal

pub loop-word-preserved : goal.loop-word-preserved
loop-word-preserved g c = walked_next _ _ _ c.loop-word.walk _ (λ i. get_or c.args.words.now i 0) c.loop-word.word-index c.meet-walk.ensures c.loop-word.invariant
