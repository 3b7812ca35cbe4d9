-- What the tests say of bytes that none of them refuses.
use Rattle.std.proofs.Common.{◌≡◌, ℕ, ◌+◌, ◌<◌, ◌≤◌, Bool, true, false, cond, not, ◌&&◌, ◌||◌, ltb, leb, List, [], ◌∷◌, length, is_some, None, Option, sym, refl, arith}
use Rattle.std.proofs.lemmas.Bool.{and_parts, and_from, leb-true, ltb-true, eqb-true, le-leb, lt-ltb, eq-eqb, true≢false}
use Rattle.patterns.specs.Kinds.{kind_of, has_first}
use Rattle.records.specs.Numbers.{verdict_of, is_broken}
use Rattle.records.specs.declared.refusal.Refusal.{Refusal}
use Rattle.records.specs.declared.refusal.Refusal.TheVariants.{Ends}
use Rattle.graph.specs.Bytes.{byte}
use Rattle.graph.specs.Tests.{error_unless, first_error}
use Rattle.graph.proofs.Tests.{Pass, pass, passes}
use Rattle.records.specs.Layout.{kind_in, verdict_in, has_p, has_depth, has_lasso, depth_at, lengths_at, stem_at, cycle_at, end_of, stem_count, cycle_count, depth_of, stem_of, cycle_of, states_ok}
use Rattle.records.specs.Refusals.{reach, same, front_tests, fields_tests, lengths_tests, columns_tests, tests, refusal}

-- the tests of a record, without those that a field is there: the last says that too
pub record Accepted (b : List ℕ) : Type 0 where
  pub map_low : byte b 0 < 8
  pub kind_some : is_some (kind_of (byte b 1)) ≡ true
  pub verdict_some : is_some (verdict_of (byte b 2)) ≡ true
  pub p_bit : has_p (byte b 0) ≡ has_first (kind_in b)
  pub lasso_bit : has_lasso (byte b 0) ≡ is_broken (verdict_in b)
  pub depth_some : (not (has_depth (byte b 0)) || ltb 0 (depth_of b)) ≡ true
  pub stem_most : stem_count b ≤ 5120
  pub cycle_some : (not (has_lasso (byte b 0)) || (leb 1 (cycle_count b) && leb (cycle_count b) 4096)) ≡ true
  pub stem_states : states_ok (stem_of b) ≡ true
  pub cycle_states : states_ok (cycle_of b) ≡ true
  pub whole : length b ≡ end_of b

none_from : {E : Type 0} (ts : List (Option E)) → Pass ts → first_error ts ≡ None
none_from [] p = refl
none_from (t ∷ ts) p = rw (p.0, none_from ts p.1)

passed : (ok : Bool) (r : Refusal) → ok ≡ true → error_unless ok r ≡ None
passed ok r e = rw e

pub same_true : (x y : Bool) → same x y ≡ true → x ≡ y
same_true true y e = sym e
same_true false true e = absurd (true≢false (sym e))
same_true false false e = refl

same_from : (x y : Bool) → x ≡ y → same x y ≡ true
same_from true y e = sym e
same_from false true e = absurd (true≢false (sym e))
same_from false false e = refl

pub accepted : (b : List ℕ) → refusal b ≡ None → Accepted b
accepted b e =
    let all = pass (tests b) e in
    let f = pass (front_tests b) all.0 in
    let d = pass (fields_tests b) all.1.0 in
    let l = pass (lengths_tests b) all.1.1.0 in
    let c = pass (columns_tests b) all.1.1.1.0 in
    let bits = and_parts (same (has_p (byte b 0)) (has_first (kind_in b))) (same (has_lasso (byte b 0)) (is_broken (verdict_in b))) (passes _ _ f.1.1.1.1.1.1.0) in
    record {
      map_low = ltb-true (byte b 0) 8 (passes _ _ f.1.0);
      kind_some = passes _ _ f.1.1.1.0;
      verdict_some = passes _ _ f.1.1.1.1.1.0;
      p_bit = same_true _ _ bits.0;
      lasso_bit = same_true _ _ bits.1;
      depth_some = passes _ _ d.1.0;
      stem_most = leb-true (stem_count b) 5120 (passes _ _ l.1.0);
      cycle_some = passes _ _ l.1.1.1.0;
      stem_states = passes _ _ c.1.0;
      cycle_states = passes _ _ c.1.1.1.0;
      whole = eqb-true (length b) (end_of b) (passes _ _ c.1.1.1.1.0);
    }

-- and back: whatever passes those tests is refused by none
pub accepts : (b : List ℕ) → Accepted b → refusal b ≡ None
accepts b a =
    let depth : 7 ≤ depth_at (byte b 0) = more_than (has_p (byte b 0)) in
    let there : (n : ℕ) → n ≤ end_of b → reach b n ≡ None = λ n h. passed _ Ends (le-leb n (length b) (omega (arith, a.whole))) in
    let lasso : cond (has_lasso (byte b 0)) 2 0 ≤ cond (has_lasso (byte b 0)) 4 0 = half (has_lasso (byte b 0)) in
    let front : Pass (front_tests b) = (
      there 1 (omega arith),
      (
        passed _ _ (lt-ltb (byte b 0) 8 a.map_low),
        (
          there 2 (omega arith),
          (
            passed _ _ a.kind_some,
            (
              there 3 (omega arith),
              (
                passed _ _ a.verdict_some,
                (passed _ _ (and_from _ _ (same_from _ _ a.p_bit) (same_from _ _ a.lasso_bit)), tt),
              ),
            ),
          ),
        ),
      ),
    ) in
    let fields : Pass (fields_tests b) = (there (lengths_at (byte b 0)) (omega arith), (passed _ _ a.depth_some, tt)) in
    let lengths : Pass (lengths_tests b) = (
      there (lengths_at (byte b 0) + cond (has_lasso (byte b 0)) 2 0) (omega arith),
      (
        passed _ _ (le-leb (stem_count b) 5120 a.stem_most),
        (there (stem_at (byte b 0)) (omega arith), (passed _ _ a.cycle_some, tt)),
      ),
    ) in
    let columns : Pass (columns_tests b) = (
      there (cycle_at b) (omega arith),
      (
        passed _ _ a.stem_states,
        (
          there (end_of b) (omega arith),
          (
            passed _ _ a.cycle_states,
            (passed _ _ (eq-eqb (length b) (end_of b) a.whole), tt),
          ),
        ),
      ),
    ) in
    none_from (tests b) (
      none_from (front_tests b) front,
      (
        none_from (fields_tests b) fields,
        (none_from (lengths_tests b) lengths, (none_from (columns_tests b) columns, tt)),
      ),
    )
  where
    more_than : (t : Bool) → 7 ≤ cond t 11 7
    more_than true = omega arith
    more_than false = omega arith

    half : (t : Bool) → cond t 2 0 ≤ cond t 4 0
    half true = omega arith
    half false = omega arith
