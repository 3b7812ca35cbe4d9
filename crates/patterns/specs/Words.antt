-- Propositions over words.
use Rattle.std.specs.Prelude.{◌≡◌, ℕ, ◌/◌, ◌%◌, ◌^◌, Bool, ◌&&◌, ◌==◌, bit_and}
use Rattle.patterns.specs.declared.proposition.Proposition.{Proposition}

-- a word has every bit of `on` and no bit of `off`
abbrev pub has : ℕ → ℕ → ℕ → Bool
has on off word = bit_and word on == on && bit_and word off == 0

-- a proposition as a test of a word
abbrev pub test : Proposition → ℕ → Bool
test p = has p.on p.off

-- bit k of a word is set
abbrev pub Bit : ℕ → ℕ → Type 0
Bit word k = word / 2 ^ k % 2 ≡ 1

-- the same bit by bit: each bit of `on` is set in the word, and no bit of `off`
abbrev pub Holds : Proposition → ℕ → Type 0
Holds p word = (k : ℕ) → (Bit p.on k → Bit word k) × (Bit p.off k → Bit word k → ⊥)
