-- Where the columns of a table begin, by its own map byte and counts, and where it ends.
use Rattle.std.specs.Prelude.{ℕ, List}
use Rattle.graph.specs.Bytes.{byte}
use Rattle.meanings.specs.Table.{count, arrows, initials_at, rows_at, targets_at, table_end}

abbrev pub initials_offset : List ℕ → ℕ
initials_offset b = initials_at (byte b 0) (count b)

abbrev pub rows_offset : List ℕ → ℕ
rows_offset b = rows_at (byte b 0) (count b)

abbrev pub targets_offset : List ℕ → ℕ
targets_offset b = targets_at (byte b 0) (count b)

abbrev pub end_offset : List ℕ → ℕ
end_offset b = table_end (byte b 0) (count b) (arrows b)
