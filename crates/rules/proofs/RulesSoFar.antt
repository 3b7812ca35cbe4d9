-- Rules taken off the front of what is left, one more at a time.
use Rattle.std.proofs.Common.{◌≡◌, ℕ, ◌+◌, ◌<◌, true, List, [], ◌∷◌, ◌++◌, length, Some, None, refl, sym, ap, ◌∙◌, add-one}
use Rattle.std.proofs.lemmas.List.{length_push}
use Rattle.std.proofs.lemmas.List.Recursion.{and_push}
use Rattle.graph.specs.declared.fault.Fault.{Fault}
use Rattle.meanings.specs.declared.Rule.{Rule}
use Rattle.meanings.specs.RuleList.{front_rule, behind_rule, from_rule, rules, rule_ok, all_ok, rule_fault, rules_fault}
use Rattle.meanings.proofs.Firsts.{none_more, first_here}
use Rattle.rules.specs.declared.rest.Rest.{Rest}
use Rattle.rules.specs.Rests.{RuleRead}

pub record RulesSoFar (old now : Rest) (n : ℕ) (read : List Rule) : Type 0 where
  pub no_fault : rules_fault old.bits old.len old.left.now n ≡ None
  pub rules_are : read ≡ rules old.left.now n
  pub rest_is : now.left.now ≡ from_rule old.left.now n
  pub fit : all_ok old.bits read ≡ true
  pub count_is : length read ≡ n
  pub bits_stay : now.bits ≡ old.bits
  pub len_stays : now.len ≡ old.len

module _ (old now : Rest) (n : ℕ) (read : List Rule) (so_far : RulesSoFar old now n read) where
  same_fault : rule_fault old.bits old.len (from_rule old.left.now n) ≡ rule_fault now.bits now.len now.left.now
  same_fault = rw (so_far.bits_stay, so_far.len_stays, so_far.rest_is)

  pub rule_more : (next : Rest) (rule : Rule) → None ≡ rule_fault now.bits now.len now.left.now → RuleRead now.left.now rule next.left.now → rule_ok now.bits rule ≡ true → (next.bits ≡ now.bits) × (next.len ≡ now.len) → RulesSoFar old next (n + 1) (read ++ (rule ∷ []))
  rule_more next rule none r fits same = record {
    no_fault = none_more (λ i. rule_fault old.bits old.len (from_rule old.left.now i)) n so_far.no_fault (same_fault ∙ sym none);
    rules_are =
        ap (λ (q : List Rule). q ++ (rule ∷ [])) so_far.rules_are
        ∙ ap (λ (q : Rule). rules old.left.now n ++ (q ∷ [])) (r.rule_is ∙ ap front_rule so_far.rest_is)
        ∙ ap (rules old.left.now) (sym (add-one n));
    rest_is = r.rest_is ∙ ap behind_rule so_far.rest_is ∙ ap (from_rule old.left.now) (sym (add-one n));
    fit = rw (and_push (all_ok old.bits) (rule_ok old.bits) refl (λ _ _. refl) read rule, so_far.fit, ← so_far.bits_stay) fits;
    count_is = length_push read rule ∙ ap (λ k. k + 1) so_far.count_is;
    bits_stay = same.0 ∙ so_far.bits_stay;
    len_stays = same.1 ∙ so_far.len_stays;
  }

  pub fault_found : (count : ℕ) (f : Fault) → Some f ≡ rule_fault now.bits now.len now.left.now → n < count → Some f ≡ rules_fault old.bits old.len old.left.now count
  fault_found count f found below =
      sym (first_here (λ k. rule_fault old.bits old.len (from_rule old.left.now k)) n count f so_far.no_fault (same_fault ∙ sym found) below)
