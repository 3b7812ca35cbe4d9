-- Tests in order: none finds an error, or the first that does.
use Rattle.std.proofs.Common.{◌≡◌, ℕ, zero, suc, ◌+◌, ◌<◌, Bool, true, false, List, [], ◌∷◌, Some, None, Option, refl, sym, ap, ◌∙◌, inl, inr, add-one, arith}
use Rattle.std.proofs.lemmas.Bool.{cases_order}
use Rattle.std.proofs.lemmas.Option.{none-some}
use Rattle.graph.specs.Tests.{error_unless, or_else, first_error, first_below}

-- no error in a list of tests: each test passes
abbrev pub Pass : {E : Type 0} → List (Option E) → Type 0
Pass [] = Unit {0}
Pass (t ∷ ts) = (t ≡ None) × Pass ts

pub pass : {E : Type 0} (ts : List (Option E)) → first_error ts ≡ None → Pass ts
pass [] e = tt
pass (None ∷ ts) e = (refl, pass ts e)
pass (Some f ∷ ts) e = absurd (none-some _ (sym e))

pub passes : {E : Type 0} (ok : Bool) (error : E) → error_unless ok error ≡ None → ok ≡ true
passes true error e = refl
passes false error e = absurd (none-some _ (sym e))

-- one place more
pub none_more : {E : Type 0} (test : ℕ → Option E) (i : ℕ) → first_below i test ≡ None → test i ≡ None → first_below (i + 1) test ≡ None
none_more test i none here = rw (add-one, none, here)

pub first_here : {E : Type 0} (test : ℕ → Option E) (i n : ℕ) (f : E) → first_below i test ≡ None → test i ≡ Some f → i < n → first_below n test ≡ Some f
first_here test i zero f none here h = absurd (omega arith)
first_here test i (suc n) f none here h =
    elim (cases_order i n) [
      | inl e ↦ let at : n ≡ i = omega arith in rw (at, none, here)
      | inr (inl l) ↦ rw (first_here test i n f none here l)
      | inr (inr g) ↦ absurd (omega arith)
    ]

pub none_below : {E : Type 0} (test : ℕ → Option E) (n : ℕ) → first_below n test ≡ None → (i : ℕ) → i < n → test i ≡ None
none_below test zero none i h = absurd (omega arith)
none_below {E = E} test (suc n) none i h = go (first_below n test) none (none_below test n)
  where
    go : (o : Option E) → or_else o (test n) ≡ None → (o ≡ None → (k : ℕ) → k < n → test k ≡ None) → test i ≡ None
    go (Some f) e below = absurd (none-some _ (sym e))
    go None e below =
        elim (cases_order i n) [
          | inl same ↦ ap test same ∙ e
          | inr (inl l) ↦ below refl i l
          | inr (inr g) ↦ absurd (omega arith)
        ]
