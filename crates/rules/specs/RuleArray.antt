-- The rules that an array holds.
use Rattle.std.specs.Prelude.{List, take}
use Rattle.meanings.specs.declared.Rule.{Rule}
use Rattle.rules.specs.declared.rule_array.RuleArray.{RuleArray}

abbrev pub used : RuleArray → List Rule
used a = take a.count a.rules
