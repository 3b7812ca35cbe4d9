-- The number and the name of each pattern.
use Rattle.std.specs.Prelude.{◌≡◌, ◌≢◌, ℕ, Bool, true, false, cond, Some, None, Option, Result, MatchResult, List, codes, ◌==◌}
use Rattle.patterns.specs.declared.kind.Kind.{Kind}
use Rattle.patterns.specs.declared.kind.UnknownKind.{UnknownKind}
use Rattle.patterns.specs.declared.kind.Kind.TheVariants.{Always, Eventual, Until, UntilStable, LeadsTo, ConditionalStable}

abbrev pub kind_number : Kind → ℕ
kind_number Always = 1
kind_number Eventual = 2
kind_number Until = 3
kind_number UntilStable = 4
kind_number LeadsTo = 5
kind_number ConditionalStable = 6

abbrev pub kind_of : ℕ → Option Kind
kind_of n =
    cond (n == 1) (Some Always) (cond (n == 2) (Some Eventual) (cond (n == 3) (Some Until)
    (cond (n == 4) (Some UntilStable) (cond (n == 5) (Some LeadsTo) (cond (n == 6) (Some ConditionalStable) None)))))

abbrev pub kind_name : Kind → List ℕ
kind_name Always = codes "always"
kind_name Eventual = codes "eventual"
kind_name Until = codes "until"
kind_name UntilStable = codes "until-stable"
kind_name LeadsTo = codes "leads-to"
kind_name ConditionalStable = codes "conditional-stable"

-- the result is the pattern of this name, or an error where none has it
abbrev pub NamesKind : List ℕ → Result Kind UnknownKind → Type 0
NamesKind name r = MatchResult r (λ kind. name ≡ kind_name kind) (λ _. (kind : Kind) → name ≢ kind_name kind)

-- whether a pattern speaks of P, and not of Q alone
abbrev pub has_first : Kind → Bool
has_first Always = false
has_first Eventual = false
has_first Until = true
has_first UntilStable = true
has_first LeadsTo = true
has_first ConditionalStable = true
