-- One element more behind a front, and numbers in two bytes each.
use Rattle.std.proofs.Common.{◌≡◌, ℕ, zero, suc, ◌+◌, ◌*◌, ◌/◌, ◌%◌, ◌<◌, List, [], ◌∷◌, ◌++◌, length, get_or, take, drop, set, sym, refl, ap, ◌∙◌, add-one, arith}
use Rattle.std.proofs.lemmas.List.{append_assoc, length_push, drop_more, set_at, take_at}
use Rattle.graph.specs.Bytes.{pair}
use Rattle.records.specs.Layout.{wide, laid, pairs}

-- behind `xs` stands what `w` held: its first element is written
pub set_next : (xs w : List ℕ) (n v : ℕ) → length xs ≡ n → n < length w → set (xs ++ drop n w) n v ≡ (xs ++ v ∷ []) ++ drop (n + 1) w
set_next xs w n v len h =
    ap (λ (r : List ℕ). set (xs ++ r) n v) (drop_more w n 0 h)
    ∙ set_at xs (get_or w n 0) (drop (n + 1) w) v n len
    ∙ sym (append_assoc xs (v ∷ []) (drop (n + 1) w))

pub take_laid : (p w whole : List ℕ) (n : ℕ) → whole ≡ laid p w → n ≡ length p → take n whole ≡ p
take_laid p w whole n e len = ap (take n) e ∙ take_at p (drop (length p) w) n (sym len)

-- numbers in two bytes each
pub length_wide : (ws : List ℕ) → length (wide ws) ≡ 2 * length ws
length_wide [] = refl
length_wide (w ∷ ws) = omega (arith, length_wide ws)

pub wide_append : (xs ys : List ℕ) → wide (xs ++ ys) ≡ wide xs ++ wide ys
wide_append [] ys = refl
wide_append (x ∷ xs) ys = ap (λ (r : List ℕ). x / 256 ∷ x % 256 ∷ r) (wide_append xs ys)

-- and read from there
pub length_pairs : (b : List ℕ) (at n : ℕ) → length (pairs b at n) ≡ n
length_pairs b at zero = refl
length_pairs b at (suc n) = length_push (pairs b at n) (pair b (at + 2 * n)) ∙ add-one (length (pairs b at n)) ∙ ap suc (length_pairs b at n)
