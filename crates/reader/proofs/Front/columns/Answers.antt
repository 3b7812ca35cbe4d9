use Rattle.std.proofs.Common.{◌≡◌, ◌+◌, ◌*◌, ◌∙◌, arith}
use Rattle.records.specs.Layout.{pairs, cycle_at}
use Rattle.reader.proofs.Front.columns.Goals as goal

pub returns-clause-read : goal.returns-clause-read
returns-clause-read c =
    let b = c.args.self.bytes.now in
    let n = c.requires.counted in
    let middle : c.stem_at-at.result + 2 * c.args.stem ≡ cycle_at b = omega (arith, c.stem_at-at.ensures.place, n.stem_is) in
    record {
      stem_is = c.in_ok-stem.ensures.read ∙ (λ i. pairs b (c.stem_at-at.ensures.place i) (n.stem_is i));
      cycle_is = c.in_ok-cycle.ensures.read ∙ (λ i. pairs b (middle i) (n.cycle_is i));
      stem_short = omega (arith, c.in_ok-stem.ensures.len, n.stem_short);
      cycle_short = omega (arith, c.in_ok-cycle.ensures.len, n.cycle_short);
    }
