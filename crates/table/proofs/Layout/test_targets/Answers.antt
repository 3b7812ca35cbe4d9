use Rattle.std.proofs.Common.{rules}
use Rattle.meanings.specs.Table.{target_fault}
use Rattle.table.proofs.FirstFaults.{first_fault}
use Rattle.table.proofs.Layout.test_targets.Goals as goal

pub returns-in_err-test_each : goal.returns-in_err-test_each
returns-in_err-test_each c = let e = first_fault c.test_each.result (target_fault c.args.self.now.header.bytes.now) c.test_each.ensures (λ k a l t. search rules) in search rules

pub returns : goal.returns
returns c = let e = first_fault c.test_each.result (target_fault c.args.self.now.header.bytes.now) c.test_each.ensures (λ k a l t. search rules) in search rules
