use Rattle.std.proofs.Common.{arith}
use Rattle.meanings.proofs.TableSound.{fine}
use Rattle.table.proofs.Here.degree.Goals as goal

pub overflow_sub-result : goal.overflow_sub-result
overflow_sub-result c =
    let here = c.args.self in
    omega (arith, c.row_end.ensures, c.row_start.ensures, ((fine here.layout.now.header.bytes.now here.tested).rows here.state here.there).0)
