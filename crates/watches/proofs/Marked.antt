-- The grounds of the three watches with two marks. What a mark says goes by whether it is 1.
use Rattle.std.specs.Prelude.{◌≡◌, ℕ, suc, ◌<◌, ◌≤◌, max, Bool, true, false, ◌==◌, ◌≢◌, refl}
use Rattle.std.proofs.Common.{inl, inr, arith}
use Rattle.watches.specs.Rules.{At, KeepsUntilStable, KeepsLeadsTo, KeepsConditionalStable}
use Rattle.watches.specs.Tables.{until_stable_row, until_stable_tint, leads_to_row, leads_to_tint, conditional_stable_row, conditional_stable_tint}
use Rattle.watches.specs.declared.Tint.TheVariants.{Sore, Relief}
use Rattle.watches.proofs.Settle.{sides, one_more}
use Rattle.watches.proofs.Watching.{Grounds, Means, clash}

-- a property of the places from a to n, one place more
span_more : (P : ℕ → Type 0) (a n : ℕ) → ((i : ℕ) → a ≤ i → i < n → P i) → P n → (i : ℕ) → a ≤ i → i < suc n → P i
span_more P a n all here i h k = one_more (λ i. a ≤ i → P i) n (λ i lt le. all i le lt) (λ _. here) i k h

module _ (p q : ℕ → Bool) (w : ℕ → ℕ) where
  -- until stable: at mark 0, P so far; at mark 1, P ended at some place, with Q from there
  abbrev Stable : ℕ → Bool → Type 0
  Stable n false = (i : ℕ) → i < n → At p w i
  Stable n true = (e : ℕ) × (e < n) × (p (w e) ≡ false) × ((i : ℕ) → i < e → At p w i) × ((i : ℕ) → e ≤ i → i < n → At q w i)

  abbrev UntilReach : ℕ → ℕ → Type 0
  UntilReach n m = Stable n (m == 1)

  stable_goes : (n : ℕ) (one a b : Bool) → p (w n) ≡ a → q (w n) ≡ b → Stable n one
      → Means (KeepsUntilStable p q w) (UntilReach (suc n)) (until_stable_row one a b)
  stable_goes n false true b e f r = one_more (At p w) n r e
  stable_goes n false false true e f r = (n, omega arith, e, r, λ i h k. let same : n ≡ i = omega arith in rw same at f)
  stable_goes n false false false e f r = λ c. elim (sides n c.0) [ inl h ↦ clash (c.2 n h) e | inr h ↦ clash (c.1 n h) f ]
  stable_goes n true a true e f r = (r.0, omega arith, r.2, r.3, span_more (At q w) r.0 n r.4 f)
  stable_goes n true a false e f r = λ c. elim (sides n c.0) [
    | inl h ↦ clash (c.2 r.0 (omega arith)) r.2
    | inr h ↦ clash (c.1 n h) f
  ]

  -- where the place is not sore, Q holds there
  stable_q : (i : ℕ) (one b : Bool) → q (w i) ≡ b → Stable (suc i) one → (until_stable_tint one b ≢ Sore) → At q w i
  stable_q i false true e r h = e
  stable_q i false false e r h = absurd (h refl)
  stable_q i true b e r h = r.4 i (omega arith) (omega arith)

  stable_healed : (k : ℕ) (one : Bool) → Stable k one → ((i : ℕ) → k ≤ i → At q w i) → KeepsUntilStable p q w
  stable_healed k false r late = (k, late, r)
  stable_healed k true r late = (r.0, λ i h. elim (sides i k) [ inl lt ↦ r.4 i h lt | inr le ↦ late i le ], r.3)

  stable_sour : (i : ℕ) (one b : Bool) → q (w i) ≡ b → until_stable_tint one b ≡ Sore → q (w i) ≡ false
  stable_sour i false false e s = e
  stable_sour i false true e s = absurd (let z : ◌≡◌ {A = ℕ} 0 1 = cc in omega arith)
  stable_sour i true b e s = absurd (let z : ◌≡◌ {A = ℕ} 0 1 = cc in omega arith)

  pub until_stable_grounds : Grounds (KeepsUntilStable p q w) (λ m x. until_stable_row (m == 1) (p x) (q x)) (λ m x. until_stable_tint (m == 1) (q x)) w UntilReach
  until_stable_grounds = record {
    start = λ i h. absurd (omega arith);
    goes = λ n m r. stable_goes n (m == 1) (p (w n)) (q (w n)) refl refl r;
    healed = λ mark r k h. stable_healed k (mark k == 1) (r k) (λ i le. stable_q i (mark (suc i) == 1) (q (w i)) refl (r (suc i)) (h i le));
    relieved = λ mark r h. absurd (let s = h 0 in never (mark (suc s.0) == 1) (q (w s.0)) s.2);
    sour = λ mark r sore k h c. let s = sore c.0 in clash (c.1 s.0 s.1) (stable_sour s.0 (mark (suc s.0) == 1) (q (w s.0)) refl s.2);
  }
    where
      never : (one b : Bool) → until_stable_tint one b ≢ Relief
      never false false e = let z : ◌≡◌ {A = ℕ} 0 1 = cc in omega arith
      never false true e = let z : ◌≡◌ {A = ℕ} 0 1 = cc in omega arith
      never true b e = let z : ◌≡◌ {A = ℕ} 0 1 = cc in omega arith

  -- leads-to: at mark 0 each P so far was answered; at mark 1 some P has had no Q yet
  abbrev Answered : ℕ → Bool → Type 0
  Answered n false = (i : ℕ) → i < n → At p w i → (j : ℕ) × (i ≤ j) × At q w j
  Answered n true = (e : ℕ) × (e < n) × At p w e × ((i : ℕ) → e ≤ i → i < n → q (w i) ≡ false)

  abbrev LeadsReach : ℕ → ℕ → Type 0
  LeadsReach n m = Answered n (m == 1)

  leads_goes : (n : ℕ) (one a b : Bool) → p (w n) ≡ a → q (w n) ≡ b → Answered n one
      → Means (KeepsLeadsTo p q w) (LeadsReach (suc n)) (leads_to_row one a b)
  leads_goes n false true false e f r = (n, omega arith, e, λ i h k. let same : n ≡ i = omega arith in rw same at f)
  leads_goes n false true true e f r = one_more (λ i. At p w i → (j : ℕ) × (i ≤ j) × At q w j) n r (λ _. (n, omega arith, f))
  leads_goes n false false b e f r = one_more (λ i. At p w i → (j : ℕ) × (i ≤ j) × At q w j) n r (λ c. absurd (clash c e))
  leads_goes n true a true e f r = λ i h c. (n, omega arith, f)
  leads_goes n true a false e f r = (r.0, omega arith, r.2, span_more (λ i. q (w i) ≡ false) r.0 n r.3 f)

  -- a place that is not sore, or is relief, has each P up to it answered
  leads_calm : (i : ℕ) (one : Bool) → Answered (suc i) one → (leads_to_tint one ≢ Sore) → Answered (suc i) false
  leads_calm i false r h = r
  leads_calm i true r h = absurd (h refl)

  leads_open : (i : ℕ) (one : Bool) → Answered (suc i) one → (leads_to_tint one ≢ Relief) → Answered (suc i) true
  leads_open i true r h = r
  leads_open i false r h = absurd (h refl)

  pub leads_to_grounds : Grounds (KeepsLeadsTo p q w) (λ m x. leads_to_row (m == 1) (p x) (q x)) (λ m x. leads_to_tint (m == 1)) w LeadsReach
  leads_to_grounds = record {
    start = λ i h. absurd (omega arith);
    goes = λ n m r. leads_goes n (m == 1) (p (w n)) (q (w n)) refl refl r;
    healed = λ mark r k h i c. leads_calm (max i k) (mark (suc (max i k)) == 1) (r (suc (max i k))) (h (max i k) (omega arith)) i (omega arith) c;
    relieved = λ mark r h i c. (let s = h i in leads_calm s.0 (mark (suc s.0) == 1) (r (suc s.0)) (λ e. let z : ◌≡◌ {A = ℕ} 0 1 = cc s.2 in omega arith) i (omega arith) c);
    sour = λ mark r sore k h c.
        let late : (i : ℕ) → k ≤ i → Answered (suc i) true = λ i le. leads_open i (mark (suc i) == 1) (r (suc i)) (h i le) in
        let first = late k (omega arith) in
        let answer = c first.0 first.2 in
        elim (sides k answer.0) [
          | inl lt ↦ (let then = late answer.0 (omega arith) in clash answer.2 (then.3 answer.0 (omega arith) (omega arith)))
          | inr le ↦ clash answer.2 (first.3 answer.0 answer.1 (omega arith))
        ];
  }

  -- conditional stable: at mark 0 no P so far; at mark 1 some P
  abbrev Started : ℕ → Bool → Type 0
  Started n false = (i : ℕ) → i < n → p (w i) ≡ false
  Started n true = (e : ℕ) × (e < n) × At p w e

  abbrev ConditionalReach : ℕ → ℕ → Type 0
  ConditionalReach n m = Started n (m == 1)

  conditional_goes : (n : ℕ) (one a : Bool) → p (w n) ≡ a → Started n one
      → Means (KeepsConditionalStable p q w) (ConditionalReach (suc n)) (conditional_stable_row one a)
  conditional_goes n false true e r = (n, omega arith, e)
  conditional_goes n false false e r = one_more (λ i. p (w i) ≡ false) n r e
  conditional_goes n true a e r = (r.0, omega arith, r.2)

  -- after a P, a place that is not sore has Q
  conditional_q : (c i : ℕ) → c ≤ i → At p w c → (one b : Bool) → q (w i) ≡ b → Started (suc i) one → (conditional_stable_tint one b ≢ Sore) → At q w i
  conditional_q c i h e true true f r s = f
  conditional_q c i h e true false f r s = absurd (s refl)
  conditional_q c i h e false b f r s = absurd (clash e (r c (omega arith)))

  -- a sore place comes after a P and has no Q
  conditional_sore : (i : ℕ) (one b : Bool) → q (w i) ≡ b → Started (suc i) one → conditional_stable_tint one b ≡ Sore → Started (suc i) true × (q (w i) ≡ false)
  conditional_sore i true false f r s = (r, f)
  conditional_sore i true true f r s = absurd (let z : ◌≡◌ {A = ℕ} 0 1 = cc in omega arith)
  conditional_sore i false b f r s = absurd (let z : ◌≡◌ {A = ℕ} 0 1 = cc in omega arith)

  pub conditional_stable_grounds : Grounds (KeepsConditionalStable p q w) (λ m x. conditional_stable_row (m == 1) (p x)) (λ m x. conditional_stable_tint (m == 1) (q x)) w ConditionalReach
  conditional_stable_grounds = record {
    start = λ i h. absurd (omega arith);
    goes = λ n m r. conditional_goes n (m == 1) (p (w n)) refl r;
    healed = λ mark r k h c e. (
      max c k,
      omega arith,
      λ i le.
          conditional_q c i (omega arith) e (mark (suc i) == 1) (q (w i)) refl (r (suc i)) (h i (omega arith)),
    );
    relieved = λ mark r h. absurd (let s = h 0 in never (mark (suc s.0) == 1) (q (w s.0)) s.2);
    sour = λ mark r sore k h c.
        let s = sore 0 in
        let p_seen = (conditional_sore s.0 (mark (suc s.0) == 1) (q (w s.0)) refl (r (suc s.0)) s.2).0 in
        let stable = c p_seen.0 p_seen.2 in
        let t = sore stable.0 in
        clash (stable.2 t.0 t.1) (conditional_sore t.0 (mark (suc t.0) == 1) (q (w t.0)) refl (r (suc t.0)) t.2).1;
  }
    where
      never : (one b : Bool) → conditional_stable_tint one b ≢ Relief
      never true false e = let z : ◌≡◌ {A = ℕ} 0 1 = cc in omega arith
      never true true e = let z : ◌≡◌ {A = ℕ} 0 1 = cc in omega arith
      never false b e = let z : ◌≡◌ {A = ℕ} 0 1 = cc in omega arith
