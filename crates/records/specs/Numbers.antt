-- The numbers that stand for verdicts and refusals, and a refusal's words.
use Rattle.std.specs.Prelude.{ℕ, Bool, true, false, cond, List, ◌++◌, Some, None, codes, decimal, Option, ◌==◌}
use Rattle.records.specs.declared.refusal.Refusal.{Refusal}
use Rattle.records.specs.declared.refusal.Refusal.TheVariants.{ListShort, Ends, Map, Value, LeftOver, OutputShort}
use Rattle.records.specs.declared.verdict.Verdict.{Verdict}
use Rattle.records.specs.declared.verdict.Verdict.TheVariants.{Open, Kept, Broken}

abbrev pub verdict_number : Verdict → ℕ
verdict_number Open = 0
verdict_number Kept = 1
verdict_number Broken = 2

abbrev pub verdict_of : ℕ → Option Verdict
verdict_of n = cond (n == 0) (Some Open) (cond (n == 1) (Some Kept) (cond (n == 2) (Some Broken) None))

abbrev pub is_broken : Verdict → Bool
is_broken Open = false
is_broken Kept = false
is_broken Broken = true

abbrev pub refusal_number : Refusal → ℕ
refusal_number ListShort = 28
refusal_number Ends = 31
refusal_number Map = 32
refusal_number Value = 33
refusal_number LeftOver = 34
refusal_number OutputShort = 35

abbrev pub refusal_words : Refusal → List ℕ
refusal_words ListShort = codes "a list is too short"
refusal_words Ends = codes "the record ends inside a field"
refusal_words Map = codes "a map bit that must not be set, or one that must be and is not"
refusal_words Value = codes "a value outside its range, or in a field that does not stand"
refusal_words LeftOver = codes "bytes left over"
refusal_words OutputShort = codes "the output is too short"

-- a refusal as it is printed
abbrev pub refusal_text : Refusal → List ℕ
refusal_text r = decimal (refusal_number r) ++ (codes ": " ++ refusal_words r)
