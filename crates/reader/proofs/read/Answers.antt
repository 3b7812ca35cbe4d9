use Rattle.std.proofs.Common.{◌≡◌, length, take, sym, ◌∙◌}
use Rattle.std.proofs.lemmas.List.{length-map}
use Rattle.records.specs.Layout.{stem_of, cycle_of}
use Rattle.records.proofs.Packs.{take_laid}
use Rattle.records.proofs.Only.{only}
use Rattle.reader.proofs.read.Goals as goal

pub returns-clause-told : goal.returns-clause-told
returns-clause-told c =
    let b = c.args.bytes.now in
    let f = c.in_ok-frame.frame in
    let k = c.in_ok-frame.ensures.read in
    let stem : take (length f.stem.now) c.unpack.new.list ≡ stem_of b =
    take_laid _ c.args.stem.now _ _ c.unpack.ensures (sym (length-map f.stem.now _)) ∙ k.columns.stem_is in
    let cycle : take (length f.cycle.now) c.unpack-2.new.list ≡ cycle_of b =
    take_laid _ c.args.cycle.now _ _ c.unpack-2.ensures (sym (length-map f.cycle.now _)) ∙ k.columns.cycle_is in
    λ i. record { heading = k.heading_is i; stem = stem i; cycle = cycle i }

pub returns-clause-only : goal.returns-clause-only
returns-clause-only c =
    only c.args.bytes.now _ (λ i. (c.type_inv.bytes i).fits) (sym c.in_ok-frame.ensures.refused) (returns-clause-told c)
