-- A source with a fault keeps the laws of a graph.
use Rattle.std.proofs.Common.{sym, refl, arith}
use Rattle.std.proofs.lemmas.Bool.{le-ltb}
use Rattle.std.proofs.lemmas.Option.{none-some}
use Rattle.graph.specs.declared.fault.Fault.{Fault}
use Rattle.graph.specs.Graph.{Sound, faulty}

pub faulty_sound : (f : Fault) → Sound (faulty f)
faulty_sound f = record {
  by_fault = record { no_states = refl; no_width = refl };
  there = λ s j. sym (le-ltb j 0 (omega arith));
  below = λ s j t e. absurd (none-some _ e);
  few_arrows = λ s. omega arith;
  total = λ s h. absurd (omega arith);
  not_initial = λ s h. refl;
  no_word = λ s h. refl;
  no_arrow = λ s h. refl;
}
