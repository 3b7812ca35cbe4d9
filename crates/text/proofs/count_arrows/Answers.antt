use Rattle.std.proofs.Common.{ap, ◌∙◌, arith, rules, tests}
use Rattle.std.proofs.lemmas.Iterator.{YieldsList-from_range, YieldsList-from_map}
use Rattle.std.proofs.lemmas.List.FromFn.{length-range_with_len}
use Rattle.std.proofs.lemmas.Iterator.Consumers.{sum_from_yields_List}
use Rattle.std.proofs.lemmas.Iterator.Adapters.{fits_from_length, at_most_from_yields_List}
use Rattle.text.specs.GraphText.{arrows}
use Rattle.text.proofs.ArrowCount.{sum-degrees}
use Rattle.text.proofs.count_arrows.Goals as goal

pub sum-requires-clause-fits : goal.sum-requires-clause-fits
sum-requires-clause-fits g c =
    let n = c.states.result in
    fits_from_length _ _ 65535 _
    (at_most_from_yields_List (YieldsList-from_range 0 n n (cc) (omega arith)) (omega (arith, length-range_with_len 0 n)))
    c.map.ensures.closure (omega arith) (λ x r q k. search (rules, tests))

pub returns : goal.returns
returns g c =
    let m = g.S.Source.meaning c.args.source.now in
    let n = c.states.result in
    sum_from_yields_List c.map.result _ c.sum.ensures.ran
    (YieldsList-from_map _ m.degree (YieldsList-from_range 0 n n (cc) (omega arith)) c.map.ensures.closure (λ x r q k. search rules))
    ∙ sum-degrees m n ∙ ap (arrows m) c.states.ensures
