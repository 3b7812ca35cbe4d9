-- Only such records are read: bytes that no test refuses are those of the record read from them.
use Rattle.std.proofs.Common.{◌≡◌, ℕ, zero, suc, ◌+◌, ◌-◌, ◌*◌, ◌<◌, ◌≤◌, Bool, true, false, cond, not, ◌&&◌, ◌||◌, eqb, ltb, leb, List, [], ◌∷◌, ◌++◌, length, drop, None, sym, refl, ap, ◌∙◌, add-zero, arith}
use Rattle.std.proofs.lemmas.List.{length-drop, take_all}
use Rattle.std.proofs.lemmas.Bool.{and_from, and_parts, le-leb, eq-eqb, cond-false}
use Rattle.patterns.specs.declared.proposition.Proposition.{Proposition}
use Rattle.patterns.specs.Kinds.{kind_number, has_first}
use Rattle.records.specs.Numbers.{verdict_number, is_broken}
use Rattle.graph.specs.Bytes.{byte, pair}
use Rattle.records.specs.Layout.{Content, wide, front, q_fields, p_fields, depth_fields, length_fields, fields, encoding, map_of, pairs, has_p, has_depth, has_lasso, depth_at, lengths_at, stem_at, cycle_at, stem_count, cycle_count, p_of, depth_of, kind_in, verdict_in, heading_of, stem_of, cycle_of, of_bytes, lasso_ok, valid}
use Rattle.records.specs.Refusals.{refusal}
use Rattle.records.specs.Round.{Writes}
use Rattle.records.proofs.Numbers.{number_kind, number_verdict}
use Rattle.records.proofs.Packs.{length_pairs}
use Rattle.records.proofs.Accepts.{Accepted, accepted}
use Rattle.records.proofs.Backs.{Bytes, pairs_append, wide_pairs}

-- a map byte is the sum of its bits
bits : (m : ℕ) → m < 8 → cond (has_p m) 1 0 + cond (has_depth m) 2 0 + cond (has_lasso m) 4 0 ≡ m
bits zero low = refl
bits (suc zero) low = refl
bits (suc (suc zero)) low = refl
bits (suc (suc (suc zero))) low = refl
bits (suc (suc (suc (suc zero)))) low = refl
bits (suc (suc (suc (suc (suc zero))))) low = refl
bits (suc (suc (suc (suc (suc (suc zero)))))) low = refl
bits (suc (suc (suc (suc (suc (suc (suc zero))))))) low = refl
bits (suc (suc (suc (suc (suc (suc (suc (suc m)))))))) low = absurd (omega arith)

-- how many numbers stand behind a section
abbrev after_lengths : List ℕ → ℕ
after_lengths b = stem_count b + cycle_count b

abbrev after_depth : List ℕ → ℕ
after_depth b = cond (has_lasso (byte b 0)) 2 0 + after_lengths b

abbrev after_p : List ℕ → ℕ
after_p b = cond (has_depth (byte b 0)) 1 0 + after_depth b

abbrev after_q : List ℕ → ℕ
after_q b = cond (has_p (byte b 0)) 2 0 + after_p b

p_end : (t : Bool) → 7 + 2 * cond t 2 0 ≡ cond t 11 7
p_end true = refl
p_end false = refl

depth_end : (t : Bool) → 2 * cond t 1 0 ≡ cond t 2 0
depth_end true = refl
depth_end false = refl

length_end : (t : Bool) → 2 * cond t 2 0 ≡ cond t 4 0
length_end true = refl
length_end false = refl

three : (b : List ℕ) → 3 ≤ length b → b ≡ byte b 0 ∷ byte b 1 ∷ byte b 2 ∷ drop 3 b
three [] h = absurd (omega arith)
three (x ∷ []) h = absurd (omega arith)
three (x ∷ y ∷ []) h = absurd (omega arith)
three (x ∷ y ∷ z ∷ r) h = refl

-- one section more in front
step : (b : List ℕ) (at n next m : ℕ) (section rest : List ℕ) → section ≡ pairs b at n → at + 2 * n ≡ next → rest ≡ pairs b next m → section ++ rest ≡ pairs b at (n + m)
step b at n next m section rest here place behind =
    ap (λ (r : List ℕ). r ++ rest) here
    ∙ ap (λ (r : List ℕ). pairs b at n ++ r) (behind ∙ ap (λ (k : ℕ). pairs b k m) (sym place))
    ∙ sym (pairs_append b at n m)

-- the flags of the record read are the bits of the map
module _ (b : List ℕ) (a : Accepted b) where
  p_flag : has_first (kind_in b) ≡ has_p (byte b 0)
  p_flag = sym a.p_bit

  lasso_flag : is_broken (verdict_in b) ≡ has_lasso (byte b 0)
  lasso_flag = sym a.lasso_bit

  depth_flag : ltb 0 (depth_of b) ≡ has_depth (byte b 0)
  depth_flag = go (has_depth (byte b 0)) a.depth_some
    where
      go : (t : Bool) → (not t || ltb 0 (cond t (pair b (depth_at (byte b 0))) 0)) ≡ true → ltb 0 (cond t (pair b (depth_at (byte b 0))) 0) ≡ t
      go true e = e
      go false e = refl

  -- each section is read from where it stands
  p_read : p_fields (heading_of b) ≡ pairs b 7 (cond (has_p (byte b 0)) 2 0)
  p_read = rw p_flag (go (has_p (byte b 0)))
    where
      go : (t : Bool) → cond t ((cond {A = Proposition} t (record { on = pair b 7; off = pair b 9 }) (record { on = 0; off = 0 })).on ∷ (cond {A = Proposition} t (record { on = pair b 7; off = pair b 9 }) (record { on = 0; off = 0 })).off ∷ []) [] ≡ pairs b 7 (cond t 2 0)
      go true = refl
      go false = refl

  depth_read : depth_fields (heading_of b) ≡ pairs b (depth_at (byte b 0)) (cond (has_depth (byte b 0)) 1 0)
  depth_read = rw depth_flag (go (has_depth (byte b 0)))
    where
      go : (t : Bool) → cond t (cond t (pair b (depth_at (byte b 0))) 0 ∷ []) [] ≡ pairs b (depth_at (byte b 0)) (cond t 1 0)
      go true = ap (λ (k : ℕ). pair b k ∷ []) (sym (add-zero (depth_at (byte b 0))))
      go false = refl

  stem_length : length (stem_of b) ≡ stem_count b
  stem_length = length_pairs b (stem_at (byte b 0)) (stem_count b)

  cycle_length : length (cycle_of b) ≡ cycle_count b
  cycle_length = length_pairs b (cycle_at b) (cycle_count b)

  length_read : length_fields (of_bytes b) ≡ pairs b (lengths_at (byte b 0)) (cond (has_lasso (byte b 0)) 2 0)
  length_read =
      ap (λ (t : Bool). cond t (length (stem_of b) ∷ length (cycle_of b) ∷ []) []) lasso_flag
      ∙ ap (λ (n : ℕ). cond (has_lasso (byte b 0)) (n ∷ length (cycle_of b) ∷ []) []) stem_length
      ∙ ap (λ (n : ℕ). cond (has_lasso (byte b 0)) (stem_count b ∷ n ∷ []) []) cycle_length
      ∙ go (has_lasso (byte b 0)) (lengths_at (byte b 0))
    where
      go : (t : Bool) (at : ℕ) → cond t (cond t (pair b at) 0 ∷ cond t (pair b (at + 2)) 0 ∷ []) [] ≡ pairs b at (cond t 2 0)
      go true at = ap (λ (k : ℕ). pair b k ∷ pair b (at + 2) ∷ []) (sym (add-zero at))
      go false at = refl

  fields_read : fields (of_bytes b) ≡ pairs b 3 (2 + after_q b)
  fields_read =
      let m : ℕ = byte b 0 in
      step b 3 2 7 (after_q b) (q_fields (heading_of b)) _ refl refl
      (step b 7 (cond (has_p m) 2 0) (depth_at m) (after_p b) (p_fields (heading_of b)) _ p_read (p_end (has_p m))
      (step b (depth_at m) (cond (has_depth m) 1 0) (lengths_at m) (after_depth b) (depth_fields (heading_of b)) _ depth_read (ap (λ (n : ℕ). depth_at m + n) (depth_end (has_depth m)))
      (step b (lengths_at m) (cond (has_lasso m) 2 0) (stem_at m) (after_lengths b) (length_fields (of_bytes b)) _ length_read (ap (λ (n : ℕ). lengths_at m + n) (length_end (has_lasso m)))
      (step b (stem_at m) (stem_count b) (cycle_at b) (cycle_count b) (stem_of b) (cycle_of b) refl refl refl))))

  map_read : map_of (heading_of b) ≡ byte b 0
  map_read =
      ap (λ (t : Bool). cond t 1 0 + cond (ltb 0 (depth_of b)) 2 0 + cond (is_broken (verdict_in b)) 4 0) p_flag
      ∙ ap (λ (t : Bool). cond (has_p (byte b 0)) 1 0 + cond t 2 0 + cond (is_broken (verdict_in b)) 4 0) depth_flag
      ∙ ap (λ (t : Bool). cond (has_p (byte b 0)) 1 0 + cond (has_depth (byte b 0)) 2 0 + cond t 4 0) lasso_flag
      ∙ bits (byte b 0) a.map_low

  bytes_back : Bytes b → encoding (of_bytes b) ≡ b
  bytes_back bytes =
      let n : ℕ = 2 + after_q b in
      let end : 3 + 2 * n ≡ length b = omega (arith, a.whole, p_end (has_p (byte b 0)), depth_end (has_depth (byte b 0)), length_end (has_lasso (byte b 0))) in
      let rest : length (drop 3 b) ≡ length b - 3 = length-drop 3 b in
      let all : length (drop 3 b) ≤ 2 * n = omega arith in
      let tail : wide (fields (of_bytes b)) ≡ drop 3 b =
      ap wide fields_read ∙ wide_pairs b 3 n bytes (omega arith) ∙ take_all (2 * n) (drop 3 b) all in
      ap (λ (r : List ℕ). front (heading_of b) ++ r) tail
      ∙ ap (λ (x : ℕ). x ∷ kind_number (kind_in b) ∷ verdict_number (verdict_in b) ∷ drop 3 b) map_read
      ∙ ap (λ (x : ℕ). byte b 0 ∷ x ∷ verdict_number (verdict_in b) ∷ drop 3 b) (number_kind (byte b 1) a.kind_some)
      ∙ ap (λ (x : ℕ). byte b 0 ∷ byte b 1 ∷ x ∷ drop 3 b) (number_verdict (byte b 2) a.verdict_some)
      ∙ sym (three b (omega arith))

  valid_back : valid (of_bytes b) ≡ true
  valid_back =
      and_from _ _
      (ap (λ (t : Bool). t || (eqb (p_of b).on 0 && eqb (p_of b).off 0)) p_flag ∙ p_fits (has_p (byte b 0)))
      (ap (λ (t : Bool). cond t (lasso_ok (stem_of b) (cycle_of b)) (eqb (length (stem_of b)) 0 && eqb (length (cycle_of b)) 0)) lasso_flag
      ∙ lasso_fits (has_lasso (byte b 0)) refl a.cycle_some)
    where
      p_fits : (t : Bool) → (t || (eqb (cond {A = Proposition} t (record { on = pair b 7; off = pair b 9 }) (record { on = 0; off = 0 })).on 0 && eqb (cond {A = Proposition} t (record { on = pair b 7; off = pair b 9 }) (record { on = 0; off = 0 })).off 0)) ≡ true
      p_fits true = refl
      p_fits false = refl

      lasso_fits : (t : Bool) → has_lasso (byte b 0) ≡ t → (not t || (leb 1 (cycle_count b) && leb (cycle_count b) 4096)) ≡ true →
          cond t (lasso_ok (stem_of b) (cycle_of b)) (eqb (length (stem_of b)) 0 && eqb (length (cycle_of b)) 0) ≡ true
      lasso_fits true e some =
          let both = and_parts (leb 1 (cycle_count b)) (leb (cycle_count b) 4096) some in
          and_from _ _ (le-leb (length (stem_of b)) 5120 (omega (arith, stem_length, a.stem_most)))
          (and_from _ _ (ap (leb 1) cycle_length ∙ both.0)
          (and_from _ _ (ap (λ (n : ℕ). leb n 4096) cycle_length ∙ both.1)
          (and_from _ _ a.stem_states a.cycle_states)))
      lasso_fits false e some =
          and_from _ _ (eq-eqb (length (stem_of b)) 0 (stem_length ∙ cond-false (has_lasso (byte b 0)) _ 0 e))
          (eq-eqb (length (cycle_of b)) 0 (cycle_length ∙ cond-false (has_lasso (byte b 0)) _ 0 e))

pub only : (b : List ℕ) (c : Content) → Bytes b → refusal b ≡ None → c ≡ of_bytes b → Writes c b
only b c bytes none e =
    let a : Accepted b = accepted b none in
    record {
      accepted = ap valid e ∙ valid_back b a;
      written = ap encoding e ∙ bytes_back b a bytes;
    }
