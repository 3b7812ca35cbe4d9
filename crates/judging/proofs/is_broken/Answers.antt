use Rattle.judging.proofs.Rounds.{judged}
use Rattle.judging.proofs.is_broken.Goals as goal

pub returns : goal.returns
returns g c = λ some.
    let few = g.met.P.Pattern.few.1 in
    let law = g.met.P.Pattern.lawful c.args.pattern.now in
    judged few law c.args.stem.now c.args.cycle.now some c.round.result c.is_rejected.result c.round.ensures c.is_rejected.ensures
