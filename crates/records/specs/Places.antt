-- Writing in the middle of a list.
use Rattle.std.specs.Prelude.{ℕ, ◌+◌, List, ◌++◌, length, take, drop}

-- what a list holds once `part` was written from `at` on: every other place is as before
abbrev pub put : ℕ → List ℕ → List ℕ → List ℕ
put at part whole = take at whole ++ (part ++ drop (at + length part) whole)
