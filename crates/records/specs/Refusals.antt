-- The first refusal of a record's bytes, and of a record to be written.
use Rattle.std.specs.Prelude.{ℕ, ◌+◌, Bool, cond, not, ◌&&◌, ◌||◌, List, [], ◌∷◌, length, is_some, Option, ◌==◌, nat_le, nat_lt}
use Rattle.patterns.specs.Kinds.{kind_of, has_first}
use Rattle.patterns.specs.declared.kind.Kind.{Kind}
use Rattle.records.specs.declared.refusal.Refusal.{Refusal}
use Rattle.records.specs.declared.refusal.Refusal.TheVariants.{ListShort, Ends, Map, Value, LeftOver, OutputShort}
use Rattle.records.specs.declared.verdict.Verdict.{Verdict}
use Rattle.records.specs.Numbers.{verdict_of, is_broken}
use Rattle.graph.specs.Bytes.{byte}
use Rattle.graph.specs.Tests.{error_unless, first_error}
use Rattle.records.specs.Layout.{Content, valid, encoding, states_ok, has_p, has_depth, has_lasso, lengths_at, stem_at, cycle_at, end_of, stem_count, cycle_count, kind_in, verdict_in, depth_of, stem_of, cycle_of}

abbrev pub accepted : Option Refusal → Bool
accepted r = not (is_some r)

-- the bytes reach up to an offset
abbrev pub reach : List ℕ → ℕ → Option Refusal
reach b end = error_unless (nat_le end (length b)) Ends

abbrev pub same : Bool → Bool → Bool
same x y = cond x y (not y)

-- P stands exactly for the patterns that speak of it, and the lasso exactly for the verdict broken
abbrev pub bits_agree : ℕ → Kind → Verdict → Bool
bits_agree map kind verdict = same (has_p map) (has_first kind) && same (has_lasso map) (is_broken verdict)

-- map, pattern and verdict
abbrev pub front_tests : List ℕ → List (Option Refusal)
front_tests b =
    reach b 1 ∷ error_unless (nat_lt (byte b 0) 8) Map ∷
    reach b 2 ∷ error_unless (is_some (kind_of (byte b 1))) Value ∷
    reach b 3 ∷ error_unless (is_some (verdict_of (byte b 2))) Value ∷
    error_unless (bits_agree (byte b 0) (kind_in b) (verdict_in b)) Map ∷ []

abbrev pub front_refusal : List ℕ → Option Refusal
front_refusal b = first_error (front_tests b)

-- Q, P and the depth: any value of Q and P will do
abbrev pub fields_tests : List ℕ → List (Option Refusal)
fields_tests b =
    reach b (lengths_at (byte b 0)) ∷
    error_unless (not (has_depth (byte b 0)) || nat_lt 0 (depth_of b)) Value ∷ []

abbrev pub fields_refusal : List ℕ → Option Refusal
fields_refusal b = first_error (fields_tests b)

abbrev pub lengths_tests : List ℕ → List (Option Refusal)
lengths_tests b =
    reach b (lengths_at (byte b 0) + cond (has_lasso (byte b 0)) 2 0) ∷
    error_unless (nat_le (stem_count b) 5120) Value ∷
    reach b (stem_at (byte b 0)) ∷
    error_unless (not (has_lasso (byte b 0)) || (nat_le 1 (cycle_count b) && nat_le (cycle_count b) 4096)) Value ∷ []

abbrev pub lengths_refusal : List ℕ → Option Refusal
lengths_refusal b = first_error (lengths_tests b)

abbrev pub columns_tests : List ℕ → List (Option Refusal)
columns_tests b =
    reach b (cycle_at b) ∷ error_unless (states_ok (stem_of b)) Value ∷
    reach b (end_of b) ∷ error_unless (states_ok (cycle_of b)) Value ∷
    error_unless (length b == end_of b) LeftOver ∷ []

abbrev pub columns_refusal : List ℕ → Option Refusal
columns_refusal b = first_error (columns_tests b)

-- field by field, each first there and then tested
abbrev pub tests : List ℕ → List (Option Refusal)
tests b = front_refusal b ∷ fields_refusal b ∷ lengths_refusal b ∷ columns_refusal b ∷ []

abbrev pub refusal : List ℕ → Option Refusal
refusal b = first_error (tests b)

-- two lists of these lengths can take the stem and the loop of every record
abbrev pub lists_ok : ℕ → ℕ → Bool
lists_ok stem cycle = nat_le 5120 stem && nat_le 4096 cycle

abbrev pub reader_refusal : ℕ → ℕ → List ℕ → Option Refusal
reader_refusal stem cycle b = first_error (error_unless (lists_ok stem cycle) ListShort ∷ refusal b ∷ [])

abbrev pub writer_refusal : Content → ℕ → Option Refusal
writer_refusal c room = first_error (error_unless (valid c) Value ∷ error_unless (nat_le (length (encoding c)) room) OutputShort ∷ [])

-- a record read from bytes and written again, which takes as many bytes
abbrev pub rewriter_refusal : ℕ → ℕ → List ℕ → ℕ → Option Refusal
rewriter_refusal stem cycle b room = first_error (reader_refusal stem cycle b ∷ error_unless (nat_le (length b) room) OutputShort ∷ [])
