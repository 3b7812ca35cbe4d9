-- Pieces of two bytes each.
use Rattle.std.proofs.Common.{◌≡◌, ℕ, zero, suc, ◌+◌, ◌-◌, ◌*◌, ◌<◌, ◌≤◌, List, ◌∷◌, ◌++◌, length, get_or, take, drop, set, sym, refl, ap, ◌∙◌, add-zero, arith}
use Rattle.std.specs.Simd.{first_chunks}
use Rattle.std.proofs.lemmas.List.{take-take, drop-take, drop-drop, get_or-take, get_or-drop, take_more, length-take-le}
use Rattle.graph.specs.Bytes.{byte, pair}
use Rattle.records.specs.Layout.{pairs}
use Rattle.records.proofs.Packs.{set_next}
use Rattle.records.proofs.Backs.{pairs_append}
use Rattle.reader.specs.Parts.{numbers}

first_two : (b : List ℕ) (at m : ℕ) → 2 ≤ m → pair (take 2 (take m (drop at b))) 0 ≡ pair b at
first_two b at m h =
    let xs : List ℕ = drop at b in
    let at_0 : byte (take 2 xs) 0 ≡ byte b at = get_or-take 2 xs 0 0 (omega arith) ∙ get_or-drop at b 0 0 ∙ ap (byte b) (add-zero at) in
    let at_1 : byte (take 2 xs) 1 ≡ byte b (at + 1) = get_or-take 2 xs 1 0 (omega arith) ∙ get_or-drop at b 1 0 in
    ap (λ (p : List ℕ). pair p 0) (take-take 2 m xs h) ∙ (λ i. at_0 i * 256 + at_1 i)

pub numbers_from : (b : List ℕ) (at n m : ℕ) → 2 * n ≤ m → numbers (first_chunks 2 n (take m (drop at b))) ≡ pairs b at n
numbers_from b at zero m h = refl
numbers_from b at (suc n) m h =
    let more : m ≡ 2 + (m - 2) = omega arith in
    let behind : drop 2 (take m (drop at b)) ≡ take (m - 2) (drop (at + 2) b) =
    ap (λ (k : ℕ). drop 2 (take k (drop at b))) more ∙ drop-take 2 (m - 2) (drop at b) ∙ ap (take (m - 2)) (drop-drop 2 at b) in
    let one_more : 1 + n ≡ suc n = omega arith in
    let head : pair (take 2 (take m (drop at b))) 0 ≡ pair b (at + 0) = first_two b at m (omega arith) ∙ ap (pair b) (sym (add-zero at)) in
    (λ i. head i ∷ numbers (first_chunks 2 n (behind i)))
    ∙ ap (λ (r : List ℕ). pair b (at + 0) ∷ r) (numbers_from b (at + 2) n (m - 2) (omega arith))
    ∙ sym (pairs_append b at 1 n)
    ∙ ap (pairs b at) one_more

-- one number more at the front of a list
pub unpack_more : (ns w : List ℕ) (i v : ℕ) → v ≡ get_or ns i 0 → i < length ns → length ns ≤ length w → set (take i ns ++ drop i w) i v ≡ take (i + 1) ns ++ drop (i + 1) w
unpack_more ns w i v e h room =
    ap (set (take i ns ++ drop i w) i) e
    ∙ set_next (take i ns) w i (get_or ns i 0) (length-take-le i ns (omega arith)) (omega arith)
    ∙ ap (λ (r : List ℕ). r ++ drop (i + 1) w) (sym (take_more ns i 0 h))
