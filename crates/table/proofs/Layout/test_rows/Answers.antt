use Rattle.std.proofs.Common.{rules}
use Rattle.meanings.specs.Table.{row_fault}
use Rattle.table.proofs.FirstFaults.{first_fault}
use Rattle.table.proofs.Layout.test_rows.Goals as goal

pub returns : goal.returns
returns c = let e = first_fault c.test_each.result (row_fault c.args.self.now.header.bytes.now) c.test_each.ensures (λ k a l t. search rules) in search rules
