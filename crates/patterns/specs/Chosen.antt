-- A pattern picked at run time: its rule and its watch are those of the pattern picked.
use Rattle.std.specs.Prelude.{ℕ, ◌==◌}
use Rattle.watches.specs.Rules.{KeepsAlways, KeepsEventual, KeepsUntil, KeepsUntilStable, KeepsLeadsTo, KeepsConditionalStable}
use Rattle.watches.specs.Tables.{always_row, eventual_row, until_row, until_stable_row, until_stable_tint, leads_to_row, leads_to_tint, conditional_stable_row, conditional_stable_tint}
use Rattle.patterns.specs.Words.{test}
use Rattle.patterns.specs.declared.any.AnyPattern.{AnyPattern}
use Rattle.patterns.specs.declared.any.AnyPattern.TheVariants as any
use Rattle.patterns.specs.declared.kind.Kind.{Kind}
use Rattle.patterns.specs.declared.kind.Kind.TheVariants.{Always, Eventual, Until, UntilStable, LeadsTo, ConditionalStable}
use Rattle.patterns.specs.declared.proposition.Proposition.{Proposition}
use Rattle.watches.specs.declared.Tint.{Tint}
use Rattle.watches.specs.declared.Tint.TheVariants.{Calm, Sore}
use Rattle.watches.specs.declared.Told.{Told}

-- the pattern of a kind, with P and Q
abbrev pub chosen : Kind → Proposition → Proposition → AnyPattern
chosen Always p q = any.Always (record { q = q })
chosen Eventual p q = any.Eventual (record { q = q })
chosen Until p q = any.Until (record { p = p; q = q })
chosen UntilStable p q = any.UntilStable (record { p = p; q = q })
chosen LeadsTo p q = any.LeadsTo (record { p = p; q = q })
chosen ConditionalStable p q = any.ConditionalStable (record { p = p; q = q })

abbrev pub kind_chosen : AnyPattern → Kind
kind_chosen (any.Always x) = Always
kind_chosen (any.Eventual x) = Eventual
kind_chosen (any.Until x) = Until
kind_chosen (any.UntilStable x) = UntilStable
kind_chosen (any.LeadsTo x) = LeadsTo
kind_chosen (any.ConditionalStable x) = ConditionalStable

abbrev pub AnyKeeps : AnyPattern → (ℕ → ℕ) → Type 0
AnyKeeps (any.Always x) = KeepsAlways (test x.q)
AnyKeeps (any.Eventual x) = KeepsEventual (test x.q)
AnyKeeps (any.Until x) = KeepsUntil (test x.p) (test x.q)
AnyKeeps (any.UntilStable x) = KeepsUntilStable (test x.p) (test x.q)
AnyKeeps (any.LeadsTo x) = KeepsLeadsTo (test x.p) (test x.q)
AnyKeeps (any.ConditionalStable x) = KeepsConditionalStable (test x.p) (test x.q)

abbrev pub any_step : AnyPattern → ℕ → ℕ → Told
any_step (any.Always x) m word = always_row (test x.q word)
any_step (any.Eventual x) m word = eventual_row (test x.q word)
any_step (any.Until x) m word = until_row (test x.p word) (test x.q word)
any_step (any.UntilStable x) m word = until_stable_row (m == 1) (test x.p word) (test x.q word)
any_step (any.LeadsTo x) m word = leads_to_row (m == 1) (test x.p word) (test x.q word)
any_step (any.ConditionalStable x) m word = conditional_stable_row (m == 1) (test x.p word)

abbrev pub any_tint : AnyPattern → ℕ → ℕ → Tint
any_tint (any.Always x) m word = Calm
any_tint (any.Eventual x) m word = Sore
any_tint (any.Until x) m word = Sore
any_tint (any.UntilStable x) m word = until_stable_tint (m == 1) (test x.q word)
any_tint (any.LeadsTo x) m word = leads_to_tint (m == 1)
any_tint (any.ConditionalStable x) m word = conditional_stable_tint (m == 1) (test x.q word)
