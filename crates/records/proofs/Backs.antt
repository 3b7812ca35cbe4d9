-- Bytes taken apart in twos, and put together again.
use Rattle.std.proofs.Common.{◌≡◌, ℕ, zero, suc, ◌+◌, ◌-◌, ◌*◌, ◌/◌, ◌%◌, ◌<◌, ◌≤◌, List, [], ◌∷◌, ◌++◌, length, get_or, take, drop, sym, refl, ap, ◌∙◌, add-zero, add-suc, add-one, arith}
use Rattle.std.proofs.lemmas.Nat.{div-add-mod', div-mul-add, mod-mul-add}
use Rattle.std.proofs.lemmas.List.{append_assoc, append-nil, length-drop, take_more, get_or-drop, get_or-append-add}
use Rattle.graph.specs.Bytes.{byte, pair}
use Rattle.records.specs.Layout.{wide, pairs}
use Rattle.records.proofs.Packs.{wide_append}

-- every place holds a byte
abbrev pub Bytes : List ℕ → Type 0
Bytes b = (i : ℕ) → byte b i < 256

pub pairs_append : (b : List ℕ) (at m n : ℕ) → pairs b at (m + n) ≡ pairs b at m ++ pairs b (at + 2 * m) n
pairs_append b at m zero = rw add-zero (sym (append-nil (pairs b at m)))
pairs_append b at m (suc n) =
    let place : at + 2 * (m + n) ≡ (at + 2 * m) + 2 * n = omega arith in
    ap (pairs b at) (add-suc m n)
    ∙ ap (λ (r : List ℕ). r ++ (pair b (at + 2 * (m + n)) ∷ [])) (pairs_append b at m n)
    ∙ append_assoc (pairs b at m) (pairs b (at + 2 * m) n) (pair b (at + 2 * (m + n)) ∷ [])
    ∙ ap (λ (k : ℕ). pairs b at m ++ (pairs b (at + 2 * m) n ++ (pair b k ∷ []))) place

-- numbers read from bytes stand in those bytes
pub wide_pairs : (b : List ℕ) (at n : ℕ) → Bytes b → at + 2 * n ≤ length b → wide (pairs b at n) ≡ take (2 * n) (drop at b)
wide_pairs b at zero bytes h = refl
wide_pairs b at (suc n) bytes h =
    let d : List ℕ = drop at b in
    let hi : ℕ = byte b (at + 2 * n) in
    let lo : ℕ = byte b (at + 2 * n + 1) in
    let room : length d ≡ length b - at = length-drop at b in
    let lo_fits : lo < 256 = bytes (at + 2 * n + 1) in
    let one : take (2 * n + 1) d ≡ take (2 * n) d ++ hi ∷ [] =
    take_more d (2 * n) 0 (omega arith) ∙ ap (λ (x : ℕ). take (2 * n) d ++ x ∷ []) (get_or-drop at b (2 * n) 0) in
    let place : at + (2 * n + 1) ≡ at + 2 * n + 1 = omega arith in
    let two : take (2 * n + 1 + 1) d ≡ take (2 * n + 1) d ++ lo ∷ [] =
    take_more d (2 * n + 1) 0 (omega arith) ∙ ap (λ (x : ℕ). take (2 * n + 1) d ++ x ∷ []) (get_or-drop at b (2 * n + 1) 0 ∙ ap (byte b) place) in
    let all : 2 * n + 1 + 1 ≡ 2 * suc n = omega arith in
    wide_append (pairs b at n) ((hi * 256 + lo) ∷ [])
    ∙ ap (λ (x : ℕ). wide (pairs b at n) ++ x ∷ ((hi * 256 + lo) % 256) ∷ []) (div-mul-add hi 256 lo lo_fits)
    ∙ ap (λ (x : ℕ). wide (pairs b at n) ++ hi ∷ x ∷ []) (mod-mul-add hi 256 lo lo_fits)
    ∙ ap (λ (r : List ℕ). r ++ hi ∷ lo ∷ []) (wide_pairs b at n bytes (omega arith))
    ∙ sym (append_assoc (take (2 * n) d) (hi ∷ []) (lo ∷ []))
    ∙ ap (λ (r : List ℕ). r ++ lo ∷ []) (sym one)
    ∙ sym two
    ∙ ap (λ (k : ℕ). take k d) all

-- a number in two bytes is read back
pub wide_high : (ws : List ℕ) (i : ℕ) → get_or (wide ws) (2 * i) 0 ≡ get_or ws i 0 / 256
wide_high [] i = refl
wide_high (w ∷ ws) zero = refl
wide_high (w ∷ ws) (suc i) = ap (λ (k : ℕ). get_or (wide (w ∷ ws)) k 0) (twice i) ∙ wide_high ws i
  where
    twice : (k : ℕ) → 2 * suc k ≡ suc (suc (2 * k))
    twice k = omega arith

pub wide_low : (ws : List ℕ) (i : ℕ) → get_or (wide ws) (2 * i + 1) 0 ≡ get_or ws i 0 % 256
wide_low [] i = refl
wide_low (w ∷ ws) zero = refl
wide_low (w ∷ ws) (suc i) = ap (λ (k : ℕ). get_or (wide (w ∷ ws)) k 0) (twice i) ∙ wide_low ws i
  where
    twice : (k : ℕ) → 2 * suc k + 1 ≡ suc (suc (2 * k + 1))
    twice k = omega arith

-- behind three bytes and the numbers `p`, the numbers `q` are read
pub pair_behind : (f p q : List ℕ) (at i : ℕ) → at ≡ length f + 2 * length p → pair (f ++ wide (p ++ q)) (at + 2 * i) ≡ get_or q i 0
pair_behind f p q at i e =
    let ws : List ℕ = p ++ q in
    let k : ℕ = length p + i in
    let high : at + 2 * i ≡ length f + 2 * k = omega arith in
    let low : at + 2 * i + 1 ≡ length f + (2 * k + 1) = omega arith in
    let hi : byte (f ++ wide ws) (at + 2 * i) ≡ get_or ws k 0 / 256 = ap (byte (f ++ wide ws)) high ∙ get_or-append-add f (wide ws) (2 * k) 0 ∙ wide_high ws k in
    let lo : byte (f ++ wide ws) (at + 2 * i + 1) ≡ get_or ws k 0 % 256 = ap (byte (f ++ wide ws)) low ∙ get_or-append-add f (wide ws) (2 * k + 1) 0 ∙ wide_low ws k in
    ap (λ (x : ℕ). x * 256 + byte (f ++ wide ws) (at + 2 * i + 1)) hi
    ∙ ap (λ (x : ℕ). get_or ws k 0 / 256 * 256 + x) lo
    ∙ div-add-mod' (get_or ws k 0) 256
    ∙ get_or-append-add p q i 0

pub pairs_behind : (f p q : List ℕ) (at n : ℕ) → at ≡ length f + 2 * length p → n ≤ length q → pairs (f ++ wide (p ++ q)) at n ≡ take n q
pairs_behind f p q at zero e h = refl
pairs_behind f p q at (suc n) e h =
    ap (λ (r : List ℕ). r ++ (pair (f ++ wide (p ++ q)) (at + 2 * n) ∷ [])) (pairs_behind f p q at n e (omega arith))
    ∙ ap (λ (x : ℕ). take n q ++ (x ∷ [])) (pair_behind f p q at n e)
    ∙ sym (take_more q n 0 (omega arith))
    ∙ ap (λ (k : ℕ). take k q) (add-one n)
