-- A reading of a graph that keeps the laws keeps them.
use Rattle.std.proofs.Common.{ℕ, Bool, true, false, cond, ltb, Some, None, Option, sym, refl, ap, arith}
use Rattle.std.proofs.lemmas.Bool.{le-ltb}
use Rattle.graph.specs.declared.fault.Cause.TheVariants.{Range}
use Rattle.graph.specs.declared.fault.Fault.{Fault}
use Rattle.graph.specs.Graph.{Graph, Sound, ByFault, word_bits}
use Rattle.std.proofs.lemmas.Option.{none-some}
use Rattle.meanings.specs.Fields.{unless, or_else}
use Rattle.meanings.specs.Reading.{reread, passed, reading}

-- the same graph, by whether the layer has no fault of its own
read_by : Bool → ℕ → ℕ → Graph → Graph
read_by ok bit mask g = record {
  fault = or_else (passed g.fault) (unless ok Range 0);
  states = cond ok g.states 0;
  width = cond ok g.width 0;
  initial = λ s. cond ok (g.initial s) false;
  word = λ s. cond ok (reread bit mask (g.word s)) 0;
  degree = λ s. cond ok (g.degree s) 0;
  target = λ s j. cond ok (g.target s j) None;
}

by_fault_whole : (f : Option Fault) (bit mask : ℕ) (g : Graph) → ByFault f g → ByFault (or_else (passed f) None) (read_by true bit mask g)
unfolding read_by
by_fault_whole None bit mask g w = record { some_state = w.some_state; few_states = w.few_states; narrow = w.narrow }
by_fault_whole (Some f) bit mask g e = record { no_states = e.no_states; no_width = e.no_width }

by_fault_own : (f : Option Fault) (bit mask : ℕ) (g : Graph) → ByFault (or_else (passed f) (unless false Range 0)) (read_by false bit mask g)
unfolding read_by
by_fault_own None bit mask g = record { no_states = refl; no_width = refl }
by_fault_own (Some f) bit mask g = record { no_states = refl; no_width = refl }

read_sound : (ok : Bool) (bit mask : ℕ) (g : Graph) → Sound g → Sound (read_by ok bit mask g)
unfolding read_by
read_sound true bit mask g S = record {
  by_fault = by_fault_whole g.fault bit mask g S.by_fault;
  there = S.there;
  below = S.below;
  few_arrows = S.few_arrows;
  total = S.total;
  not_initial = S.not_initial;
  no_word = λ s h. ap (reread bit mask) (S.no_word s h);
  no_arrow = S.no_arrow;
}
read_sound false bit mask g S = record {
  by_fault = by_fault_own g.fault bit mask g;
  there = λ s j. sym (le-ltb j 0 (omega arith));
  below = λ s j t e. absurd (none-some _ e);
  few_arrows = λ s. omega arith;
  total = λ s h. absurd (omega arith);
  not_initial = λ s h. refl;
  no_word = λ s h. refl;
  no_arrow = λ s h. refl;
}

pub reading_sound : (bit mask : ℕ) (g : Graph) → Sound g → Sound (reading bit mask g)
unfolding read_by
reading_sound bit mask g S = read_sound (ltb bit word_bits) bit mask g S
