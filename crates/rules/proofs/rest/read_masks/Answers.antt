use Rattle.std.proofs.Common.{arith}
use Rattle.std.proofs.lemmas.Grind.{common_steps}
use Rattle.rules.proofs.rest.read_masks.Goals as goal

pub returns : goal.returns
returns c = record {
  enough = grind (arith, common_steps);
  rule_is = grind (arith, common_steps);
  rest_is = grind (arith, common_steps);
}
