-- One state more at the end of a line.
use Rattle.std.proofs.Common.{◌≡◌, ℕ, ◌+◌, ◌<◌, List, [], ◌∷◌, ◌++◌, length, get_or, take, codes, decimal, sym, ap, ◌∙◌}
use Rattle.std.proofs.lemmas.List.{append_assoc, append-nil, take_more}
use Rattle.explain.specs.Text.{spaced}

spaced_push : (xs : List ℕ) (x : ℕ) → spaced (xs ++ x ∷ []) ≡ spaced xs ++ (codes " " ++ decimal x)
spaced_push [] x = ap (λ (r : List ℕ). codes " " ++ r) (append-nil (decimal x))
spaced_push (y ∷ ys) x =
    ap (λ (r : List ℕ). codes " " ++ (decimal y ++ r)) (spaced_push ys x)
    ∙ ap (λ (r : List ℕ). codes " " ++ r) (sym (append_assoc (decimal y) (spaced ys) (codes " " ++ decimal x)))

pub spaced_more : (xs : List ℕ) (i : ℕ) → i < length xs → spaced (take i xs) ++ (codes " " ++ decimal (get_or xs i 0)) ≡ spaced (take (i + 1) xs)
spaced_more xs i h = sym (ap spaced (take_more xs i 0 h) ∙ spaced_push (take i xs) (get_or xs i 0))
