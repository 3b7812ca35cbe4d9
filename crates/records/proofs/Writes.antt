-- A record written section by section, each behind the one before.
use Rattle.std.proofs.Common.{◌≡◌, ℕ, ◌+◌, ◌*◌, ◌≤◌, Bool, true, false, cond, ◌&&◌, ◌||◌, eqb, leb, List, [], ◌++◌, length, refl, arith}
use Rattle.std.proofs.lemmas.List.{append_assoc, length-append}
use Rattle.std.proofs.lemmas.Bool.{and_parts, leb-true, eqb-true}
use Rattle.patterns.specs.Kinds.{has_first}
use Rattle.records.specs.Numbers.{is_broken}
use Rattle.records.specs.Layout.{Content, wide, front, q_fields, p_fields, depth_fields, length_fields, fields, encoding, lasso_ok, valid}
use Rattle.records.proofs.Packs.{length_wide, wide_append}

pub length_encoding : (c : Content) →
    length (encoding c) ≡ 7 + 2 * length (p_fields c.heading) + 2 * length (depth_fields c.heading) + 2 * length (length_fields c) + 2 * length c.stem + 2 * length c.cycle
length_encoding c =
    let g : List ℕ = p_fields c.heading in
    let d : List ℕ = depth_fields c.heading in
    let l : List ℕ = length_fields c in
    omega (arith, length_wide (fields c), length-append g (d ++ (l ++ (c.stem ++ c.cycle))), length-append d (l ++ (c.stem ++ c.cycle)), length-append l (c.stem ++ c.cycle), length-append c.stem c.cycle)

pub valid_lasso : (c : Content) → valid c ≡ true → cond (is_broken c.heading.verdict) (lasso_ok c.stem c.cycle) (eqb (length c.stem) 0 && eqb (length c.cycle) 0) ≡ true
valid_lasso c v = (and_parts (has_first c.heading.kind || (eqb c.heading.p.on 0 && eqb c.heading.p.off 0)) _ v).1

pub valid_short : (c : Content) → valid c ≡ true → (length c.stem ≤ 5120) × (length c.cycle ≤ 4096)
valid_short c v = go (is_broken c.heading.verdict) (valid_lasso c v)
  where
    go : (t : Bool) → cond t (lasso_ok c.stem c.cycle) (eqb (length c.stem) 0 && eqb (length c.cycle) 0) ≡ true → (length c.stem ≤ 5120) × (length c.cycle ≤ 4096)
    go true ok =
        let a = and_parts (leb (length c.stem) 5120) _ ok in
        let b = and_parts (leb 1 (length c.cycle)) _ a.1 in
        let d = and_parts (leb (length c.cycle) 4096) _ b.1 in
        (leb-true (length c.stem) 5120 a.0, leb-true (length c.cycle) 4096 d.0)
    go false ok =
        let a = and_parts (eqb (length c.stem) 0) (eqb (length c.cycle) 0) ok in
        let s = eqb-true (length c.stem) 0 a.0 in
        let l = eqb-true (length c.cycle) 0 a.1 in
        (omega arith, omega arith)

-- the sections, one behind the other
pub sections : (c : Content) →
    (((((front c.heading ++ wide (q_fields c.heading)) ++ wide (p_fields c.heading)) ++ wide (depth_fields c.heading)) ++ wide (length_fields c)) ++ wide c.stem) ++ wide c.cycle ≡ encoding c
sections c = simp (append_assoc, wide_append)

-- how long a section is that may stand
pub length_when : (t : Bool) (xs : List ℕ) → 2 * length (cond t xs []) ≡ cond t (2 * length xs) 0
length_when true xs = refl
length_when false xs = refl
