use Rattle.std.proofs.Common.{ltb, sym, ◌∙◌, rules}
use borrow.Author.Tests.{tests}
use Rattle.std.proofs.lemmas.Iterator.{YieldsList-from_slice}
use Rattle.std.proofs.lemmas.Iterator.Search.{all_from_yields_List}
use Rattle.std.proofs.lemmas.List.Folds.{list_all-map}
use Rattle.graph.specs.Bytes.{pair}
use Rattle.reader.proofs.column_stands.Goals as goal

pub returns : goal.returns
returns c =
    let pieces = c.args.column.now in
    all_from_yields_List (λ p. ltb (pair p 0) 1024) _ _ _ c.all.ensures.ran (YieldsList-from_slice pieces cc) (λ x b q k. search (rules, tests))
    ∙ sym (list_all-map (λ s. ltb s 1024) (λ p. pair p 0) pieces)
