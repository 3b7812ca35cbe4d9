use Rattle.std.proofs.Common.{ℕ, ◌<◌, Ok}
use Rattle.table.proofs.test_each.Given as goal

abbrev pub invariant-loop-k : goal.invariant-loop-k
invariant-loop-k g l = (k : ℕ) → k < l.k → goal.F-post g l.test_at k (Ok tt)
