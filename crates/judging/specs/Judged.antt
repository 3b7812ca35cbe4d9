-- The answer to whether a lasso of words breaks a path rule.
use Rattle.std.specs.Prelude.{◌≡◌, ℕ, ◌<◌, Bool, IsTrue, ◌↔◌, List, length, Ok, Err, Result}
use Rattle.graph.specs.Lassos.{lasso}
use Rattle.patterns.specs.Watch.{Breaks}
use Rattle.judging.specs.declared.EmptyLoop.{EmptyLoop}

-- a lasso with an empty loop is refused, and no other
abbrev pub Judged : ((ℕ → ℕ) → Type 0) → List ℕ → List ℕ → Result Bool EmptyLoop → Type 0
Judged keeps stem loop (Ok b) = (0 < length loop) × (IsTrue b ↔ Breaks keeps (lasso stem loop))
Judged keeps stem loop (Err e) = length loop ≡ 0

-- the answer to whether it keeps the rule of one of the six
abbrev pub KeepsJudged : ((ℕ → ℕ) → Type 0) → List ℕ → List ℕ → Result Bool EmptyLoop → Type 0
KeepsJudged keeps stem loop (Ok b) = (0 < length loop) × (IsTrue b ↔ ∥ keeps (lasso stem loop) ∥₁)
KeepsJudged keeps stem loop (Err e) = length loop ≡ 0
