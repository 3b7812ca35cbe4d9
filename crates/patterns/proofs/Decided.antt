-- Each lasso keeps the rule of each of the six or breaks it. The law asks no pattern for that.
use Rattle.std.proofs.Common.{ℕ, ◌<◌, eqb, ◌⊎◌, List, length, arith}
use Rattle.graph.specs.Lassos.{lasso}
use Rattle.patterns.specs.Chosen.{AnyKeeps}
use Rattle.watches.specs.Watch.{Breaks}
use Rattle.patterns.specs.Words.{test}
use Rattle.patterns.specs.declared.any.AnyPattern.{AnyPattern}
use Rattle.patterns.specs.declared.any.AnyPattern.TheVariants.{Always, Eventual, Until, UntilStable, LeadsTo, ConditionalStable}
use Rattle.watches.proofs.Laws.{decided, always_below, eventual_below, until_below, until_stable_below, leads_to_below, conditional_stable_below}
use Rattle.watches.proofs.Marked.{until_stable_grounds, leads_to_grounds, conditional_stable_grounds}
use Rattle.watches.proofs.Simple.{always_grounds, eventual_grounds, until_grounds}

pub any_decided : (x : AnyPattern) (stem loop : List ℕ) → 0 < length loop → AnyKeeps x (lasso stem loop) ⊎ Breaks (AnyKeeps x) (lasso stem loop)
any_decided (Always x) = decided (omega arith) (λ m w. always_below (test x.q w)) (always_grounds (test x.q))
any_decided (Eventual x) = decided (omega arith) (λ m w. eventual_below (test x.q w)) (eventual_grounds (test x.q))
any_decided (Until x) = decided (omega arith) (λ m w. until_below (test x.p w) (test x.q w)) (until_grounds (test x.p) (test x.q))
any_decided (UntilStable x) = decided (omega arith) (λ m w. until_stable_below (eqb m 1) (test x.p w) (test x.q w)) (until_stable_grounds (test x.p) (test x.q))
any_decided (LeadsTo x) = decided (omega arith) (λ m w. leads_to_below (eqb m 1) (test x.p w) (test x.q w)) (leads_to_grounds (test x.p) (test x.q))
any_decided (ConditionalStable x) = decided (omega arith) (λ m w. conditional_stable_below (eqb m 1) (test x.p w)) (conditional_stable_grounds (test x.p) (test x.q))
