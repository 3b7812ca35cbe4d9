-- What holds of a table without a fault, and that a table keeps the laws of a graph.
use Rattle.std.proofs.Common.{◌≡◌, ℕ, ◌+◌, ◌-◌, ◌*◌, ◌<◌, ◌≤◌, true, false, cond, ◌&&◌, ◌||◌, eqb, ltb, leb, List, [], ◌∷◌, length, is_some, Some, None, Option, sym, refl, ◌∙◌, subst, inl, inr, arith}
use Rattle.std.proofs.lemmas.Bool.{and_parts, and_from, and_left, and_right, cond-true, cond-false, cases_lt, ltb-true, leb-true, eqb-true, lt-ltb, le-ltb}
use Rattle.std.proofs.lemmas.Option.{none-some}
use Rattle.graph.specs.declared.fault.Cause.TheVariants.{MapBit, Range, RowEnd, Target, LeftOver}
use Rattle.graph.specs.declared.fault.Fault.{Fault}
use Rattle.graph.specs.Graph.{Sound}
use Rattle.graph.proofs.Faulty.{faulty_sound}
use Rattle.graph.specs.Bytes.{byte}
use Rattle.meanings.specs.Fields.{unless, reach, first_below}
use Rattle.meanings.specs.Table.{count, arrows, row, before, target, row_ok, row_fault, target_fault, table_end, targets_at, rows_at, header_fault, columns_fault, rows_fault, targets_fault, table_fault, word_of, initial_of, whole, by_fault, table}
use Rattle.meanings.proofs.Firsts.{pass, passes, none_below}

pub record Fine (b : List ℕ) : Type 0 where
  pub some_state : 1 ≤ count b
  pub few_states : count b ≤ 1024
  pub few_arrows : arrows b ≤ 16384
  pub rows : (i : ℕ) → i < count b → (before b i < row b i) × (row b i ≤ arrows b)
  pub targets : (k : ℕ) → k < arrows b → target b k < count b
  pub long : length b ≡ table_end (byte b 0) (count b) (arrows b)

row_parts : (b : List ℕ) (i : ℕ) → row_ok b i ≡ true → (before b i < row b i) × (row b i ≤ arrows b)
row_parts b i e =
    let p = and_parts (ltb (before b i) (row b i)) (leb (row b i) (arrows b) && (ltb (i + 1) (count b) || eqb (row b i) (arrows b))) e in
    let q = and_parts (leb (row b i) (arrows b)) (ltb (i + 1) (count b) || eqb (row b i) (arrows b)) p.1 in
    (ltb-true (before b i) (row b i) p.0, leb-true (row b i) (arrows b) q.0)

pub fine : (b : List ℕ) → table_fault b ≡ None → Fine b
fine b e =
    let all = pass (header_fault b ∷ columns_fault b ∷ rows_fault b ∷ targets_fault b ∷ []) e in
    let h = pass (reach b 1 ∷ unless (ltb (byte b 0) 4) MapBit 0 ∷ reach b 3 ∷ unless (leb 1 (count b) && leb (count b) 1024) Range 1 ∷ reach b 5 ∷ unless (leb 1 (arrows b) && leb (arrows b) 16384) Range 3 ∷ []) all.0 in
    let r = pass (reach b (targets_at (byte b 0) (count b)) ∷ first_below (count b) (row_fault b) ∷ []) all.1.1.0 in
    let end : ℕ = table_end (byte b 0) (count b) (arrows b) in
    let t = pass (reach b end ∷ first_below (arrows b) (target_fault b) ∷ unless (eqb (length b) end) LeftOver end ∷ []) all.1.1.1.0 in
    let n = and_parts (leb 1 (count b)) (leb (count b) 1024) (passes (leb 1 (count b) && leb (count b) 1024) Range 1 h.1.1.1.0) in
    let w = and_parts (leb 1 (arrows b)) (leb (arrows b) 16384) (passes (leb 1 (arrows b) && leb (arrows b) 16384) Range 3 h.1.1.1.1.1.0) in
    record {
      some_state = leb-true 1 (count b) n.0;
      few_states = leb-true (count b) 1024 n.1;
      few_arrows = leb-true (arrows b) 16384 w.1;
      rows = λ i l. row_parts b i (passes (row_ok b i) RowEnd (rows_at (byte b 0) (count b) + 2 * i) (none_below (row_fault b) (count b) r.1.0 i l));
      targets = λ k l. ltb-true (target b k) (count b) (passes (ltb (target b k) (count b)) Target (targets_at (byte b 0) (count b) + 2 * k) (none_below (target_fault b) (arrows b) t.1.0 k l));
      long = eqb-true (length b) end (passes (eqb (length b) end) LeftOver end t.1.1.0);
    }

whole_sound : (b : List ℕ) → Fine b → Sound (whole b)
whole_sound b f = record {
  by_fault = record { some_state = f.some_state; few_states = f.few_states; narrow = omega (arith, f.few_arrows) };
  there = λ s j.
      elim (ltb s (count b)) as (λ v. is_some (cond (v && ltb j (degree s)) (Some (arrow s j)) None) ≡ ltb j (cond v (degree s) 0)) [
        | true ↦ elim (ltb j (degree s)) as (λ v. is_some (cond v (Some (arrow s j)) None) ≡ v) [ true ↦ refl | false ↦ refl ]
        | false ↦ sym (le-ltb j 0 (omega arith))
      ];
  below = λ s j t e. elim (cases_lt s (count b)) [
    | inl l ↦ elim (cases_lt j (degree s)) [
      | inl d ↦
          let here = cond-true (ltb s (count b) && ltb j (degree s)) (Some (arrow s j)) None (and_from (ltb s (count b)) (ltb j (degree s)) (lt-ltb s (count b) l) (lt-ltb j (degree s) d)) in
          let same : arrow s j ≡ t = cc in
          omega (arith, same, f.targets (before b s + j) (omega (arith, (f.rows s l).1)))
      | inr g ↦ absurd (none-some _ (sym (sym e ∙ nothing s j (and_right (ltb s (count b)) (ltb j (degree s)) (le-ltb j (degree s) g)))))
    ]
    | inr g ↦ absurd (none-some _ (sym (sym e ∙ nothing s j (and_left (ltb s (count b)) (ltb j (degree s)) (le-ltb s (count b) g)))))
  ];
  few_arrows = λ s. elim (cases_lt s (count b)) [
    | inl l ↦ omega (arith, in_degree s l, (f.rows s l).1)
    | inr g ↦ omega (arith, out_degree s g)
  ];
  total = λ s h. omega (arith, in_degree s h, (f.rows s h).0);
  not_initial = λ s h. cond-false (ltb s (count b)) (initial_of b s) false (le-ltb s (count b) h);
  no_word = λ s h. cond-false (ltb s (count b)) (word_of b s) 0 (le-ltb s (count b) h);
  no_arrow = out_degree;
}
  where
    degree : ℕ → ℕ
    degree s = row b s - before b s

    arrow : ℕ → ℕ → ℕ
    arrow s j = target b (before b s + j)

    nothing : (s j : ℕ) → (ltb s (count b) && ltb j (degree s)) ≡ false → (whole b).target s j ≡ None
    nothing s j e = cond-false (ltb s (count b) && ltb j (degree s)) (Some (arrow s j)) None e

    in_degree : (s : ℕ) → s < count b → (whole b).degree s ≡ degree s
    in_degree s h = cond-true (ltb s (count b)) (degree s) 0 (lt-ltb s (count b) h)

    out_degree : (s : ℕ) → count b ≤ s → (whole b).degree s ≡ 0
    out_degree s h = cond-false (ltb s (count b)) (degree s) 0 (le-ltb s (count b) h)

pub table_sound : (b : List ℕ) → Sound (table b)
table_sound b = go (table_fault b) refl
  where
    go : (o : Option Fault) → table_fault b ≡ o → Sound (by_fault o b)
    go None e = whole_sound b (fine b e)
    go (Some f) e = faulty_sound f

-- a state that is there: the table has no fault
pub stands : (b : List ℕ) (s : ℕ) → s < (table b).states → table_fault b ≡ None
stands b s = go (table_fault b) refl
  where
    go : (o : Option Fault) → table_fault b ≡ o → s < (by_fault o b).states → table_fault b ≡ None
    go None e h = e
    go (Some f) e h = absurd (omega arith)

pub there : (b : List ℕ) (s : ℕ) → s < (table b).states → Fine b × (s < count b)
there b s h = (fine b none, subst (λ (o : Option Fault). s < (by_fault o b).states) none h)
  where
    none : table_fault b ≡ None
    none = stands b s h
