use Rattle.std.proofs.Common.{◌≡◌, ℕ, ◌*◌, Bool, true, false, cond, [], ◌∷◌, length, refl, ap, ◌∙◌, arith}
use Rattle.std.specs.Int.{from_bool}
use Rattle.records.specs.Layout.{p_fields, depth_fields, length_fields}
use Rattle.records.proofs.Writes.{length_encoding}
use Rattle.records.specs.Round.{of_record}
use Rattle.writer.proofs.Valid.size.Goals as goal

-- a section of two numbers that may stand
two : (stands : Bool) (m n : ℕ) → 2 * from_bool stands ≡ length (cond stands (m ∷ n ∷ []) [])
two true m n = refl
two false m n = refl

one : (stands : Bool) (n : ℕ) → from_bool stands ≡ length (cond stands (n ∷ []) [])
one true n = refl
one false n = refl

pub returns : goal.returns
returns c =
    let t = of_record c.args.self.filing in
    let h = t.heading in
    let p : 2 * c.from.result ≡ length (p_fields h) =
    ap (λ (n : ℕ). 2 * n) (c.from.ensures ∙ ap from_bool c.has_first.ensures) ∙ two _ h.p.on h.p.off in
    let depth : c.from-2.result ≡ length (depth_fields h) = c.from-2.ensures ∙ one _ h.depth in
    let lengths : 2 * c.from-3.result ≡ length (length_fields t) =
    ap (λ (n : ℕ). 2 * n) (c.from-3.ensures ∙ ap from_bool c.is_broken.ensures) ∙ two _ (length t.stem) (length t.cycle) in
    omega (arith, length_encoding t)
