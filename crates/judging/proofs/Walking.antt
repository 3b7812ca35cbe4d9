-- Stretches of words put together.
use Rattle.std.proofs.Common.{◌≡◌, ℕ, zero, suc, ◌+◌, ◌*◌, ◌%◌, ◌<◌, List, length, get_or, sym, refl, ap, ◌∙◌, ap₂, add-zero, add-suc, add-mul, one-mul, add-one, arith}
use Rattle.std.proofs.lemmas.Nat.{mod-mul-add}
use Rattle.watches.specs.declared.Told.{Told}
use Rattle.watches.specs.declared.Tint.{Tint}
use Rattle.judging.specs.Walks.{met, walked}
use Rattle.judging.specs.declared.Walk.{Walk}

module _ (step : ℕ → ℕ → Told) (tint : ℕ → ℕ → Tint) where
  -- a walk goes by the words on its way alone
  pub walked_same : (before : Walk) (v w : ℕ → ℕ) (n : ℕ) → ((i : ℕ) → i < n → v i ≡ w i) → walked step tint before v n ≡ walked step tint before w n
  walked_same before v w zero h = refl
  walked_same before v w (suc n) h = ap₂ (met step tint) (walked_same before v w n (λ i lt. h i (omega arith))) (h n (omega arith))

  pub walked_add : (before : Walk) (w : ℕ → ℕ) (m n : ℕ) → walked step tint before w (m + n) ≡ walked step tint (walked step tint before w m) (λ i. w (m + i)) n
  walked_add before w m zero = ap (walked step tint before w) (add-zero m)
  walked_add before w m (suc n) = ap (walked step tint before w) (add-suc m n) ∙ ap (λ x. met step tint x (w (m + n))) (walked_add before w m n)

  -- one word more
  pub walked_next : (before walk after : Walk) (w : ℕ → ℕ) (n : ℕ) → after ≡ met step tint walk (w n) → walk ≡ walked step tint before w n → after ≡ walked step tint before w (n + 1)
  walked_next before walk after w n e h = e ∙ ap (λ x. met step tint x (w n)) h ∙ ap (walked step tint before w) (sym (add-one n))

  -- one turn of a loop more
  module _ (loop : List ℕ) where
    abbrev ring : ℕ → ℕ
    ring i = get_or loop (i % length loop) 0

    pub walked_turn : (before walk after : Walk) (t : ℕ) → after ≡ walked step tint walk (λ i. get_or loop i 0) (length loop) → walk ≡ walked step tint before ring (t * length loop)
        → after ≡ walked step tint before ring ((t + 1) * length loop)
    walked_turn before walk after t e h =
        let n : ℕ = length loop in
        let more : t * n + n ≡ (t + 1) * n = omega (arith, add-mul t 1 n, one-mul n) in
        e
        ∙ ap (λ x. walked step tint x (λ i. get_or loop i 0) n) h
        ∙ walked_same (walked step tint before ring (t * n)) (λ i. get_or loop i 0) (λ i. ring (t * n + i)) n (λ i lt. ap (λ k. get_or loop k 0) (sym (mod-mul-add t n i lt)))
        ∙ sym (walked_add before ring (t * n) n)
        ∙ ap (walked step tint before ring) more
