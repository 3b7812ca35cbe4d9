-- Numbers in lists of bytes.
use Rattle.std.specs.Prelude.{ℕ, ◌+◌, ◌*◌, List, slice_index}

-- the byte at an offset, and the number in two bytes, the high byte first
abbrev pub byte : List ℕ → ℕ → ℕ
byte b i = slice_index b i

abbrev pub pair : List ℕ → ℕ → ℕ
pair b i = byte b i * 256 + byte b (i + 1)
