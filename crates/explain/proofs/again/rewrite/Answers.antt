use Rattle.std.proofs.Common.{◌≡◌, ℕ, List, length, Option, ap, ◌∙◌}
use Rattle.records.specs.declared.refusal.Refusal.{Refusal}
use Rattle.records.specs.Layout.{Content, valid, encoding, laid, laid_if, stem_of, cycle_of}
use Rattle.records.specs.Refusals.{accepted}
use Rattle.records.specs.Round.{of_record, of_found, Writes}
use Rattle.explain.proofs.Rewrites.{again}
use Rattle.explain.proofs.again.rewrite.Goals as goal

pub returns : goal.returns
returns c =
    let b : List ℕ = c.args.bytes.now in
    let k = c.in_ok-found.ensures in
    let t : Content = of_record c.view.result in
    let v = c.view.ensures in
    let same : t ≡ of_found c.in_ok-found.found c.read.new.stem c.read.new.cycle = (λ i. record { heading = v.heading i; stem = v.stem i; cycle = v.cycle i }) in
    let w : Writes t b = record { accepted = ap valid same ∙ k.only.accepted; written = ap encoding same ∙ k.only.written } in
    record {
      refused = c.in_ok-write.ensures.refused ∙ again b t (length c.args.stem.now) (length c.args.cycle.now) (length c.args.out.now) w k.refused;
      answer = k.answer;
      told = k.told;
      stem = k.stem ∙ ap (λ (r : Option Refusal). laid_if (accepted r) (stem_of b) c.args.stem.now) k.refused;
      cycle = k.cycle ∙ ap (λ (r : Option Refusal). laid_if (accepted r) (cycle_of b) c.args.cycle.now) k.refused;
      output = c.in_ok-write.ensures.output ∙ ap (λ (b : List ℕ). laid b c.args.out.now) w.written;
    }
