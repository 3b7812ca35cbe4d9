-- A watch that is always calm does not show the law.
use Rattle.std.proofs.Common.{◌≡◌, ℕ, zero, suc, Bool, false, [], ◌∷◌, refl, ap, inl, inr, arith}
use Rattle.watches.specs.Rules.{KeepsEventual}
use Rattle.watches.specs.Tables.{eventual_row}
use Rattle.watches.specs.Watch.{Lawful, Rejects, fed, onward}
use Rattle.graph.specs.Lassos.{lasso}
use Rattle.watches.specs.declared.Told.TheVariants.{Mark}
use Rattle.watches.specs.declared.Tint.TheVariants.{Calm}
use Rattle.watches.proofs.Watching.{clash}

abbrev never : ℕ → Bool
never x = false

stays : (w : ℕ → ℕ) (n : ℕ) → fed (λ m x. eventual_row (never x)) w n ≡ Mark 0
stays w zero = refl
stays w (suc n) = ap (λ t. onward (λ m x. eventual_row (never x)) t (w n)) (stays w n)

not_rejected : (w : ℕ → ℕ) → Rejects (λ m x. eventual_row (never x)) (λ m x. Calm) w → ⊥
not_rejected w (inl (i, e)) = let s = stays w (suc i) in let z : ◌≡◌ {A = ℕ} 0 1 = cc in omega arith
not_rejected w (inr f) = let z : ◌≡◌ {A = ℕ} 0 1 = cc (f.sore 0).2.2 in omega arith

pub always_calm_fails : Lawful 1 (KeepsEventual never) (λ m x. eventual_row (never x)) (λ m x. Calm) → ⊥
always_calm_fails law = not_rejected (lasso [] (0 ∷ [])) ((law.rejects [] (0 ∷ []) (omega arith)).0 (λ k. clash k.1 refl))
