-- A control table: what its bytes tell, and the first fault in them.
use Rattle.std.specs.Prelude.{ℕ, zero, suc, ◌+◌, ◌-◌, ◌*◌, ◌/◌, ◌%◌, ◌^◌, Bool, false, cond, not, ◌&&◌, ◌||◌, List, [], ◌∷◌, length, Some, None, Option, ◌==◌, bit_and, nat_le, nat_lt}
use Rattle.graph.specs.declared.fault.Cause.TheVariants.{MapBit, Range, RowEnd, Target, LeftOver}
use Rattle.graph.specs.declared.fault.Fault.{Fault}
use Rattle.graph.specs.Graph.{Graph, faulty}
use Rattle.meanings.specs.declared.Columns.{Columns}
use Rattle.graph.specs.Bytes.{byte, pair}
use Rattle.meanings.specs.Fields.{unless, reach}
use Rattle.graph.specs.Tests.{first_error, first_below}

-- The layout -----------------------------------------------------------------

-- the map byte: whether the column of words and that of initial states stand
abbrev pub has_words : ℕ → Bool
has_words map = bit_and map 1 == 1

abbrev pub has_initials : ℕ → Bool
has_initials map = bit_and map 2 == 2

-- N and T
abbrev pub count : List ℕ → ℕ
count b = pair b 1

abbrev pub arrows : List ℕ → ℕ
arrows b = pair b 3

-- where the columns begin, by the map byte and N: the words at 5, then initial states, row ends and targets
abbrev pub initials_at : ℕ → ℕ → ℕ
initials_at map n = 5 + cond (has_words map) (2 * n) 0

abbrev pub rows_at : ℕ → ℕ → ℕ
rows_at map n = initials_at map n + cond (has_initials map) ((n + 7) / 8) 0

abbrev pub targets_at : ℕ → ℕ → ℕ
targets_at map n = rows_at map n + 2 * n

-- where the table ends
abbrev pub table_end : ℕ → ℕ → ℕ → ℕ
table_end map n t = targets_at map n + 2 * t

-- What a table without a fault tells ------------------------------------------

abbrev pub word_of : List ℕ → ℕ → ℕ
word_of b s = cond (has_words (byte b 0)) (pair b (5 + 2 * s)) 0

abbrev pub initial_of : List ℕ → ℕ → Bool
initial_of b s =
    cond (has_initials (byte b 0)) (byte b (initials_at (byte b 0) (count b) + s / 8) / 2 ^ (s % 8) % 2 == 1) (s == 0)

-- row end i counts the arrows of states 0 to i; those before state i are one row end earlier
abbrev pub row : List ℕ → ℕ → ℕ
row b i = pair b (rows_at (byte b 0) (count b) + 2 * i)

abbrev pub before : List ℕ → ℕ → ℕ
before b zero = 0
before b (suc i) = row b i

abbrev pub target : List ℕ → ℕ → ℕ
target b k = pair b (targets_at (byte b 0) (count b) + 2 * k)

abbrev pub whole : List ℕ → Graph
whole b = record {
  fault = None;
  states = count b;
  width = arrows b;
  initial = λ s. cond (nat_lt s (count b)) (initial_of b s) false;
  word = λ s. cond (nat_lt s (count b)) (word_of b s) 0;
  degree = λ s. cond (nat_lt s (count b)) (row b s - before b s) 0;
  target = λ s j. cond (nat_lt s (count b) && nat_lt j (row b s - before b s)) (Some (target b (before b s + j))) None;
}

-- The first fault --------------------------------------------------------------

abbrev pub header_fault : List ℕ → Option Fault
header_fault b = first_error (
    reach b 1 ∷ unless (nat_lt (byte b 0) 4) MapBit 0 ∷
    reach b 3 ∷ unless (nat_le 1 (count b) && nat_le (count b) 1024) Range 1 ∷
    reach b 5 ∷ unless (nat_le 1 (arrows b) && nat_le (arrows b) 16384) Range 3 ∷ [])

-- the bits past N in the last byte of initial states are zero
abbrev pub past_ok : List ℕ → Bool
past_ok b = not (has_initials (byte b 0)) || nat_lt (byte b (rows_at (byte b 0) (count b) - 1)) (2 ^ ((count b - 1) % 8 + 1))

abbrev pub columns_fault : List ℕ → Option Fault
columns_fault b = first_error (
    reach b (initials_at (byte b 0) (count b)) ∷
    reach b (rows_at (byte b 0) (count b)) ∷ unless (past_ok b) Range (rows_at (byte b 0) (count b) - 1) ∷ [])

-- a row end lies above the one before and not above T, and the last is T
abbrev pub row_ok : List ℕ → ℕ → Bool
row_ok b i = nat_lt (before b i) (row b i) && (nat_le (row b i) (arrows b) && (nat_lt (i + 1) (count b) || row b i == arrows b))

abbrev pub row_fault : List ℕ → ℕ → Option Fault
row_fault b i = unless (row_ok b i) RowEnd (rows_at (byte b 0) (count b) + 2 * i)

abbrev pub rows_fault : List ℕ → Option Fault
rows_fault b = first_error (reach b (targets_at (byte b 0) (count b)) ∷ first_below (count b) (row_fault b) ∷ [])

abbrev pub target_fault : List ℕ → ℕ → Option Fault
target_fault b k = unless (nat_lt (target b k) (count b)) Target (targets_at (byte b 0) (count b) + 2 * k)

abbrev pub targets_fault : List ℕ → Option Fault
targets_fault b = first_error (
    reach b (table_end (byte b 0) (count b) (arrows b)) ∷
    first_below (arrows b) (target_fault b) ∷
    unless (length b == table_end (byte b 0) (count b) (arrows b)) LeftOver (table_end (byte b 0) (count b) (arrows b)) ∷ [])

-- fields in order, each first there and then tested
abbrev pub table_fault : List ℕ → Option Fault
table_fault b = first_error (header_fault b ∷ columns_fault b ∷ rows_fault b ∷ targets_fault b ∷ [])

abbrev pub by_fault : Option Fault → List ℕ → Graph
by_fault None b = whole b
by_fault (Some f) b = faulty f

-- what the bytes tell, whatever they are
abbrev pub table : List ℕ → Graph
table b = by_fault (table_fault b) b

-- which columns stand
abbrev pub columns_by : Option Fault → ℕ → Columns
columns_by None map = record { words = has_words map; initials = has_initials map }
columns_by (Some f) map = record { words = false; initials = false }

abbrev pub columns : List ℕ → Columns
columns b = columns_by (table_fault b) (byte b 0)
