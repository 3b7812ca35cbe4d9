-- A record that the writer accepts is read back from its bytes.
use Rattle.std.proofs.Common.{◌≡◌, ℕ, ◌+◌, ◌*◌, ◌<◌, ◌≤◌, Bool, true, false, cond, not, ◌&&◌, ◌||◌, eqb, ltb, leb, List, [], ◌∷◌, ◌++◌, length, get_or, take, sym, refl, ap, ◌∙◌, add-zero, arith}
use Rattle.std.proofs.lemmas.List.{append_assoc, length-append, get_or_append_left, take_at, take_all, nil_from_length}
use Rattle.std.proofs.lemmas.Bool.{and_parts, and_from, eqb-true, ltb-false, cond-false}
use Rattle.patterns.specs.declared.proposition.Proposition.{Proposition}
use Rattle.patterns.specs.Kinds.{has_first}
use Rattle.records.specs.Numbers.{is_broken}
use Rattle.graph.specs.Bytes.{pair}
use Rattle.records.specs.Layout.{Content, wide, front, q_fields, p_fields, depth_fields, length_fields, fields, encoding, map_of, pairs, has_p, has_depth, has_lasso, depth_at, lengths_at, stem_at, cycle_at, stem_count, cycle_count, p_of, depth_of, heading_of, stem_of, cycle_of, states_ok, lasso_ok, valid, of_bytes}
use Rattle.records.specs.Refusals.{refusal}
use Rattle.records.specs.Round.{Reads}
use Rattle.records.proofs.Numbers.{kind_back, verdict_back}
use Rattle.records.proofs.Writes.{length_encoding, valid_lasso, valid_short, length_when}
use Rattle.records.proofs.Accepts.{Accepted, accepts}
use Rattle.records.proofs.Backs.{pair_behind, pairs_behind}

-- the bits of a sum of bits
flags : (g d l : Bool) →
    (has_p (cond g 1 0 + cond d 2 0 + cond l 4 0) ≡ g) × (has_depth (cond g 1 0 + cond d 2 0 + cond l 4 0) ≡ d) × (has_lasso (cond g 1 0 + cond d 2 0 + cond l 4 0) ≡ l) × (cond g 1 0 + cond d 2 0 + cond l 4 0 < 8)
flags true true true = (refl, refl, refl, omega arith)
flags true true false = (refl, refl, refl, omega arith)
flags true false true = (refl, refl, refl, omega arith)
flags true false false = (refl, refl, refl, omega arith)
flags false true true = (refl, refl, refl, omega arith)
flags false true false = (refl, refl, refl, omega arith)
flags false false true = (refl, refl, refl, omega arith)
flags false false false = (refl, refl, refl, omega arith)

-- where a section stands, by how long the one before is
p_place : (t : Bool) (x y : ℕ) → cond t 11 7 ≡ 7 + 2 * length (cond t (x ∷ y ∷ []) [])
p_place true x y = refl
p_place false x y = refl

-- what stands in front of each section
abbrev to_depth : Content → List ℕ
to_depth c = q_fields c.heading ++ p_fields c.heading

abbrev to_lengths : Content → List ℕ
to_lengths c = to_depth c ++ depth_fields c.heading

abbrev to_stem : Content → List ℕ
to_stem c = to_lengths c ++ length_fields c

module _ (c : Content) where
  -- the same numbers, split before each section
  split_depth : fields c ≡ to_depth c ++ (depth_fields c.heading ++ (length_fields c ++ (c.stem ++ c.cycle)))
  split_depth = sym (append_assoc (q_fields c.heading) (p_fields c.heading) (depth_fields c.heading ++ (length_fields c ++ (c.stem ++ c.cycle))))

  split_lengths : fields c ≡ to_lengths c ++ (length_fields c ++ (c.stem ++ c.cycle))
  split_lengths = split_depth ∙ sym (append_assoc (to_depth c) (depth_fields c.heading) (length_fields c ++ (c.stem ++ c.cycle)))

  split_stem : fields c ≡ to_stem c ++ (c.stem ++ c.cycle)
  split_stem = split_lengths ∙ sym (append_assoc (to_lengths c) (length_fields c) (c.stem ++ c.cycle))

  split_cycle : fields c ≡ (to_stem c ++ c.stem) ++ c.cycle
  split_cycle = split_stem ∙ sym (append_assoc (to_stem c) c.stem c.cycle)

  p_flag : has_p (map_of c.heading) ≡ has_first c.heading.kind
  p_flag = (flags (has_first c.heading.kind) (ltb 0 c.heading.depth) (is_broken c.heading.verdict)).0

  depth_flag : has_depth (map_of c.heading) ≡ ltb 0 c.heading.depth
  depth_flag = (flags (has_first c.heading.kind) (ltb 0 c.heading.depth) (is_broken c.heading.verdict)).1

  lasso_flag : has_lasso (map_of c.heading) ≡ is_broken c.heading.verdict
  lasso_flag = (flags (has_first c.heading.kind) (ltb 0 c.heading.depth) (is_broken c.heading.verdict)).2

  depth_place : depth_at (map_of c.heading) ≡ 3 + 2 * length (to_depth c)
  depth_place =
      ap (λ (t : Bool). cond t 11 7) p_flag ∙ p_place (has_first c.heading.kind) c.heading.p.on c.heading.p.off ∙ omega arith

  lengths_place : lengths_at (map_of c.heading) ≡ 3 + 2 * length (to_lengths c)
  lengths_place =
      let d : cond (has_depth (map_of c.heading)) 2 0 ≡ 2 * length (depth_fields c.heading) = ap (λ (t : Bool). cond t 2 0) depth_flag ∙ sym (length_when (ltb 0 c.heading.depth) (c.heading.depth ∷ [])) in
      omega (arith, depth_place, length-append (to_depth c) (depth_fields c.heading))

  stem_place : stem_at (map_of c.heading) ≡ 3 + 2 * length (to_stem c)
  stem_place =
      let l : cond (has_lasso (map_of c.heading)) 4 0 ≡ 2 * length (length_fields c) = ap (λ (t : Bool). cond t 4 0) lasso_flag ∙ sym (length_when (is_broken c.heading.verdict) (length c.stem ∷ length c.cycle ∷ [])) in
      omega (arith, lengths_place, length-append (to_lengths c) (length_fields c))

  -- the number at a place of a section
  number_at : (p q : List ℕ) (at i : ℕ) → fields c ≡ p ++ q → at ≡ 3 + 2 * length p → pair (encoding c) (at + 2 * i) ≡ get_or q i 0
  number_at p q at i e place = ap (λ (ws : List ℕ). pair (front c.heading ++ wide ws) (at + 2 * i)) e ∙ pair_behind (front c.heading) p q at i place

  numbers_at : (p q : List ℕ) (at n : ℕ) → fields c ≡ p ++ q → at ≡ 3 + 2 * length p → n ≤ length q → pairs (encoding c) at n ≡ take n q
  numbers_at p q at n e place short = ap (λ (ws : List ℕ). pairs (front c.heading ++ wide ws) at n) e ∙ pairs_behind (front c.heading) p q at n place short

  depth_back : depth_of (encoding c) ≡ c.heading.depth
  depth_back =
      let here : pair (encoding c) (depth_at (map_of c.heading)) ≡ get_or (depth_fields c.heading ++ (length_fields c ++ (c.stem ++ c.cycle))) 0 0 =
      ap (pair (encoding c)) (sym (add-zero (depth_at (map_of c.heading)))) ∙ number_at (to_depth c) _ (depth_at (map_of c.heading)) 0 split_depth depth_place in
      ap (λ (t : Bool). cond t (pair (encoding c) (depth_at (map_of c.heading))) 0) depth_flag
      ∙ ap (λ (x : ℕ). cond (ltb 0 c.heading.depth) x 0) here
      ∙ go (ltb 0 c.heading.depth) refl
    where
      go : (t : Bool) → ltb 0 c.heading.depth ≡ t → cond t (get_or (cond t (c.heading.depth ∷ []) [] ++ (length_fields c ++ (c.stem ++ c.cycle))) 0 0) 0 ≡ c.heading.depth
      go true e = refl
      go false e = omega (arith, ltb-false 0 c.heading.depth e)

  -- a section that does not stand is empty in the record too
  module _ (v : valid c ≡ true) where
    p_back : p_of (encoding c) ≡ c.heading.p
    p_back =
        let on : pair (encoding c) 7 ≡ get_or (p_fields c.heading ++ (depth_fields c.heading ++ (length_fields c ++ (c.stem ++ c.cycle)))) 0 0 =
        number_at (q_fields c.heading) _ 7 0 refl refl in
        let off : pair (encoding c) 9 ≡ get_or (p_fields c.heading ++ (depth_fields c.heading ++ (length_fields c ++ (c.stem ++ c.cycle)))) 1 0 =
        number_at (q_fields c.heading) _ 7 1 refl refl in
        ap (λ (t : Bool). cond {A = Proposition} t (record { on = pair (encoding c) 7; off = pair (encoding c) 9 }) (record { on = 0; off = 0 })) p_flag
        ∙ ap (λ (x : ℕ). cond {A = Proposition} (has_first c.heading.kind) (record { on = x; off = pair (encoding c) 9 }) (record { on = 0; off = 0 })) on
        ∙ ap (λ (x : ℕ). cond {A = Proposition} (has_first c.heading.kind) (record { on = get_or (p_fields c.heading ++ (depth_fields c.heading ++ (length_fields c ++ (c.stem ++ c.cycle)))) 0 0; off = x }) (record { on = 0; off = 0 })) off
        ∙ go (has_first c.heading.kind) (and_parts (has_first c.heading.kind || (eqb c.heading.p.on 0 && eqb c.heading.p.off 0)) _ v).0
      where
        go : (t : Bool) → (t || (eqb c.heading.p.on 0 && eqb c.heading.p.off 0)) ≡ true →
            cond {A = Proposition} t
            (record {
              on = get_or (cond t (c.heading.p.on ∷ c.heading.p.off ∷ []) [] ++ (depth_fields c.heading ++ (length_fields c ++ (c.stem ++ c.cycle)))) 0 0;
              off = get_or (cond t (c.heading.p.on ∷ c.heading.p.off ∷ []) [] ++ (depth_fields c.heading ++ (length_fields c ++ (c.stem ++ c.cycle)))) 1 0;
            })
            (record { on = 0; off = 0 }) ≡ c.heading.p
        go true e = refl
        go false e =
            let both = and_parts (eqb c.heading.p.on 0) (eqb c.heading.p.off 0) e in
            ap (λ (x : ℕ). record { on = x; off = 0 }) (sym (eqb-true c.heading.p.on 0 both.0))
            ∙ ap (λ (x : ℕ). record { on = c.heading.p.on; off = x }) (sym (eqb-true c.heading.p.off 0 both.1))

    count_back : (i n : ℕ) → (is_broken c.heading.verdict ≡ true → n ≡ get_or (length c.stem ∷ length c.cycle ∷ []) i 0) → (is_broken c.heading.verdict ≡ false → n ≡ 0) → i < 2 →
        cond (has_lasso (map_of c.heading)) (pair (encoding c) (lengths_at (map_of c.heading) + 2 * i)) 0 ≡ n
    count_back i n stands absent low =
        ap (λ (t : Bool). cond t (pair (encoding c) (lengths_at (map_of c.heading) + 2 * i)) 0) lasso_flag
        ∙ ap (λ (x : ℕ). cond (is_broken c.heading.verdict) x 0) (number_at (to_lengths c) _ (lengths_at (map_of c.heading)) i split_lengths lengths_place)
        ∙ go (is_broken c.heading.verdict) stands absent
      where
        go : (t : Bool) → (t ≡ true → n ≡ get_or (length c.stem ∷ length c.cycle ∷ []) i 0) → (t ≡ false → n ≡ 0) →
            cond t (get_or (cond t (length c.stem ∷ length c.cycle ∷ []) [] ++ (c.stem ++ c.cycle)) i 0) 0 ≡ n
        go true stand none = get_or_append_left (length c.stem ∷ length c.cycle ∷ []) (c.stem ++ c.cycle) 0 i low ∙ sym (stand refl)
        go false stand none = sym (none refl)

    none : is_broken c.heading.verdict ≡ false → (length c.stem ≡ 0) × (length c.cycle ≡ 0)
    none e =
        let w : (eqb (length c.stem) 0 && eqb (length c.cycle) 0) ≡ true = sym (cond-false (is_broken c.heading.verdict) (lasso_ok c.stem c.cycle) _ e) ∙ valid_lasso c v in
        let both = and_parts (eqb (length c.stem) 0) (eqb (length c.cycle) 0) w in
        (eqb-true (length c.stem) 0 both.0, eqb-true (length c.cycle) 0 both.1)

    stem_count_back : stem_count (encoding c) ≡ length c.stem
    stem_count_back =
        ap (λ (at : ℕ). cond (has_lasso (map_of c.heading)) (pair (encoding c) at) 0) (sym (add-zero (lengths_at (map_of c.heading))))
        ∙ count_back 0 (length c.stem) (λ e. refl) (λ e. (none e).0) (omega arith)

    cycle_count_back : cycle_count (encoding c) ≡ length c.cycle
    cycle_count_back = count_back 1 (length c.cycle) (λ e. refl) (λ e. (none e).1) (omega arith)

    stem_back : stem_of (encoding c) ≡ c.stem
    stem_back =
        let short : length c.stem ≤ length (c.stem ++ c.cycle) = omega (arith, length-append c.stem c.cycle) in
        ap (pairs (encoding c) (stem_at (map_of c.heading))) stem_count_back
        ∙ numbers_at (to_stem c) (c.stem ++ c.cycle) (stem_at (map_of c.heading)) (length c.stem) split_stem stem_place short
        ∙ take_at c.stem c.cycle (length c.stem) refl

    cycle_place : cycle_at (encoding c) ≡ 3 + 2 * length (to_stem c ++ c.stem)
    cycle_place = omega (arith, stem_place, stem_count_back, length-append (to_stem c) c.stem)

    cycle_back : cycle_of (encoding c) ≡ c.cycle
    cycle_back =
        ap (pairs (encoding c) (cycle_at (encoding c))) cycle_count_back
        ∙ numbers_at (to_stem c ++ c.stem) c.cycle (cycle_at (encoding c)) (length c.cycle) split_cycle cycle_place (omega arith)
        ∙ take_all (length c.cycle) c.cycle (omega arith)

    heading_back : heading_of (encoding c) ≡ c.heading
    heading_back =
        let on : pair (encoding c) 3 ≡ c.heading.q.on = number_at [] (fields c) 3 0 refl refl in
        let off : pair (encoding c) 5 ≡ c.heading.q.off = number_at [] (fields c) 3 1 refl refl in
        λ i. record {
          kind = (kind_back c.heading.kind).1 i;
          verdict = (verdict_back c.heading.verdict).1 i;
          p = p_back i;
          q = record { on = on i; off = off i };
          depth = depth_back i;
        }

    states_back : (states_ok c.stem ≡ true) × (states_ok c.cycle ≡ true)
    states_back = go (is_broken c.heading.verdict) (valid_lasso c v)
      where
        go : (t : Bool) → cond t (lasso_ok c.stem c.cycle) (eqb (length c.stem) 0 && eqb (length c.cycle) 0) ≡ true → (states_ok c.stem ≡ true) × (states_ok c.cycle ≡ true)
        go true ok =
            let one = and_parts (leb (length c.stem) 5120) _ ok in
            let two = and_parts (leb 1 (length c.cycle)) _ one.1 in
            let three = and_parts (leb (length c.cycle) 4096) _ two.1 in
            and_parts (states_ok c.stem) (states_ok c.cycle) three.1
        go false ok =
            let both = and_parts (eqb (length c.stem) 0) (eqb (length c.cycle) 0) ok in
            (ap states_ok (nil_from_length c.stem (eqb-true (length c.stem) 0 both.0)), ap states_ok (nil_from_length c.cycle (eqb-true (length c.cycle) 0 both.1)))

    cycle_fits : (not (is_broken c.heading.verdict) || (leb 1 (length c.cycle) && leb (length c.cycle) 4096)) ≡ true
    cycle_fits = go (is_broken c.heading.verdict) (valid_lasso c v)
      where
        go : (t : Bool) → cond t (lasso_ok c.stem c.cycle) (eqb (length c.stem) 0 && eqb (length c.cycle) 0) ≡ true → (not t || (leb 1 (length c.cycle) && leb (length c.cycle) 4096)) ≡ true
        go true ok =
            let one = and_parts (leb (length c.stem) 5120) _ ok in
            let two = and_parts (leb 1 (length c.cycle)) _ one.1 in
            and_from _ _ two.0 (and_parts (leb (length c.cycle) 4096) _ two.1).0
        go false ok = refl

    accepted_back : Accepted (encoding c)
    accepted_back =
        let short = valid_short c v in
        record {
          map_low = (flags (has_first c.heading.kind) (ltb 0 c.heading.depth) (is_broken c.heading.verdict)).3;
          kind_some = (kind_back c.heading.kind).0;
          verdict_some = (verdict_back c.heading.verdict).0;
          p_bit = p_flag ∙ sym (ap has_first (kind_back c.heading.kind).1);
          lasso_bit = lasso_flag ∙ sym (ap is_broken (verdict_back c.heading.verdict).1);
          depth_some = ap (λ (t : Bool). not t || ltb 0 (depth_of (encoding c))) depth_flag ∙ ap (λ (x : ℕ). not (ltb 0 c.heading.depth) || ltb 0 x) depth_back ∙ either_way (ltb 0 c.heading.depth);
          stem_most = omega (arith, stem_count_back, short.0);
          cycle_some = ap (λ (t : Bool). not t || (leb 1 (cycle_count (encoding c)) && leb (cycle_count (encoding c)) 4096)) lasso_flag
              ∙ ap (λ (n : ℕ). not (is_broken c.heading.verdict) || (leb 1 n && leb n 4096)) cycle_count_back ∙ cycle_fits;
          stem_states = ap states_ok stem_back ∙ states_back.0;
          cycle_states = ap states_ok cycle_back ∙ states_back.1;
          whole = omega (arith, length_encoding c, stem_place, stem_count_back, cycle_count_back, length-append (to_lengths c) (length_fields c), length-append (to_depth c) (depth_fields c.heading));
        }
      where
        either_way : (t : Bool) → (not t || t) ≡ true
        either_way true = refl
        either_way false = refl

pub back : (c : Content) (b : List ℕ) → valid c ≡ true → b ≡ encoding c → Reads b c
back c b v e = record {
  accepted = ap refusal e ∙ accepts (encoding c) (accepted_back c v);
  read = ap of_bytes e ∙ (λ i. record { heading = heading_back c v i; stem = stem_back c v i; cycle = cycle_back c v i });
}
