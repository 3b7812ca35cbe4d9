-- The arrows of the first states, as a sum.
use Rattle.std.proofs.Common.{◌≡◌, ℕ, zero, suc, ◌+◌, map, sum, refl, sym, ap, arith, ◌∙◌, add-one}
use Rattle.std.specs.List.{range_with_len}
use Rattle.std.proofs.lemmas.List.FromFn.{sum_by-map-range_with_len_more}
use Rattle.graph.specs.Graph.{Graph}
use Rattle.text.specs.GraphText.{arrows}

pub sum-degrees : (g : Graph) (n : ℕ) → sum (map g.degree (range_with_len 0 n)) ≡ arrows g n
sum-degrees g zero = refl
sum-degrees g (suc n) =
    ap (λ k. sum (map g.degree (range_with_len 0 k))) (sym (add-one n))
    ∙ sum_by-map-range_with_len_more (λ x. x) g.degree 0 n n (omega arith) ∙ ap (λ a. a + g.degree n) (sum-degrees g n)
