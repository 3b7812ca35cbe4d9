-- The rows of a table without a fault rise up to T, so that the target asked for lies in its column.
use Rattle.std.proofs.Common.{arith}
use Rattle.meanings.proofs.TableSound.{fine}
use Rattle.table.proofs.Here.arrow.Goals as goal

pub overflow_add-k : goal.overflow_add-k
overflow_add-k c =
    let here = c.args.self in
    let f = fine here.layout.now.header.bytes.now here.tested in
    omega (arith, c.if-j-degree.false, c.degree.ensures, c.row_start.ensures, (f.rows here.state here.there).1, f.few_arrows)

pub pair_in-requires : goal.pair_in-requires
pair_in-requires c =
    let here = c.args.self in
    let f = fine here.layout.now.header.bytes.now here.tested in
    omega (arith, c.if-j-degree.false, c.degree.ensures, c.row_start.ensures, (f.rows here.state here.there).1, f.long, here.layout.now.targets)
