-- A reading: what a layer that reads one bit of each word anew tells of the source below it.
use Rattle.std.specs.Prelude.{ℕ, ◌-◌, ◌^◌, false, cond, Some, None, Option, ◌==◌, bit_and, bit_or, bit_xor, nat_lt}
use Rattle.graph.specs.declared.fault.Cause.TheVariants.{Range}
use Rattle.graph.specs.declared.fault.Fault.{Fault}
use Rattle.graph.specs.Faults.{raised}
use Rattle.graph.specs.Graph.{Graph, word_bits}
use Rattle.meanings.specs.Fields.{unless, or_else}

-- a word with the bit set if it has any bit of the mask, and else cleared
abbrev pub reread : ℕ → ℕ → ℕ → ℕ
reread bit mask w = cond (bit_and w mask == 0) (bit_and w (bit_xor (2 ^ word_bits - 1) (2 ^ bit))) (bit_or w (2 ^ bit))

-- a fault from below, one layer higher
abbrev pub passed : Option Fault → Option Fault
passed None = None
passed (Some f) = Some (raised f)

-- A fault from below goes first, then the layer's own. Below a fault the graph is empty, and the word of a state
-- that is not there is 0 and stays so, so that only the layer's own fault has to be told apart.
abbrev pub reading : ℕ → ℕ → Graph → Graph
reading bit mask g = record {
  fault = or_else (passed g.fault) (unless (nat_lt bit word_bits) Range 0);
  states = cond (nat_lt bit word_bits) g.states 0;
  width = cond (nat_lt bit word_bits) g.width 0;
  initial = λ s. cond (nat_lt bit word_bits) (g.initial s) false;
  word = λ s. cond (nat_lt bit word_bits) (reread bit mask (g.word s)) 0;
  degree = λ s. cond (nat_lt bit word_bits) (g.degree s) 0;
  target = λ s j. cond (nat_lt bit word_bits) (g.target s j) None;
}
