-- Patterns and verdicts in words.
use Rattle.std.specs.Prelude.{ℕ, List, codes}
use Rattle.patterns.specs.declared.kind.Kind.{Kind}
use Rattle.patterns.specs.declared.kind.Kind.TheVariants.{Always, Eventual, Until, UntilStable, LeadsTo, ConditionalStable}
use Rattle.records.specs.declared.verdict.Verdict.{Verdict}
use Rattle.records.specs.declared.verdict.Verdict.TheVariants.{Open, Kept, Broken}

abbrev pub kind_words : Kind → List ℕ
kind_words Always = codes "always: Q holds at every place"
kind_words Eventual = codes "eventual: Q holds at some place"
kind_words Until = codes "until: Q holds at some place, and P at each place before it"
kind_words UntilStable = codes "until stable: from some place on Q holds, and P holds at each place before it"
kind_words LeadsTo = codes "leads to: each place with P has Q there or later"
kind_words ConditionalStable = codes "conditional stable: each place with P has a place, there or later, from which on Q holds"

abbrev pub verdict_words : Verdict → List ℕ
verdict_words Open = codes "open: not decided yet"
verdict_words Kept = codes "kept: no path of the graph breaks the pattern"
verdict_words Broken = codes "broken: the path that goes through the stem and then round the loop for ever breaks the pattern"
