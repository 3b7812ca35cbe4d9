-- A word with every bit set but one.
use Rattle.std.proofs.Common.{◌≡◌, ℕ, ◌*◌, ◌-◌, ◌%◌, ◌^◌, ◌<◌, bit_xor, arith}
use Rattle.std.specs.Int.Bits.{xor_add_and}
use Rattle.std.proofs.lemmas.Nat.{and_comm, and_mask, pow_below}

pub all_but : (k : ℕ) → k < 16 → 65535 - 1 * 2 ^ k % 65536 ≡ bit_xor 65535 (2 ^ k)
all_but k h =
    let b = 2 ^ k in
    omega (arith, pow_below k 16 h, xor_add_and 65535 b, and_comm 65535 b, and_mask b 16)
