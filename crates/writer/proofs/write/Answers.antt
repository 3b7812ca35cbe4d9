use Rattle.records.proofs.Packs.{take_laid}
use Rattle.records.proofs.Same.{back}
use Rattle.records.specs.Round.{of_record, Reads}
use Rattle.std.proofs.Common.{subst, take}
use Rattle.writer.proofs.write.Goals as goal

pub returns-clause-back : goal.returns-clause-back
returns-clause-back c =
    let t = c.in_ok-tested.tested in
    subst (Reads (take c.size-size.result c.put.new.out)) c.in_ok-tested.ensures.same
    (back (of_record t.filing) _ t.valid (take_laid _ c.args.out.now _ _ c.put.ensures.written c.size-size.ensures))
