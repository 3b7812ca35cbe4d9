-- What the writer makes of a record that was read.
use Rattle.std.proofs.Common.{◌≡◌, ℕ, leb, List, [], ◌∷◌, length, None, Option, ap, ◌∙◌}
use Rattle.graph.specs.Tests.{error_unless, first_error}
use Rattle.records.specs.declared.refusal.Refusal.{Refusal}
use Rattle.records.specs.declared.refusal.Refusal.TheVariants.{Value, OutputShort}
use Rattle.records.specs.Layout.{Content}
use Rattle.records.specs.Refusals.{reader_refusal, writer_refusal, rewriter_refusal}
use Rattle.records.specs.Round.{Writes}

-- the writer refuses for want of room alone
pub again : (b : List ℕ) (c : Content) (stem cycle room : ℕ) → Writes c b → None ≡ reader_refusal stem cycle b →
    writer_refusal c room ≡ rewriter_refusal stem cycle b room
again b c stem cycle room w e =
    (λ i. first_error (error_unless (w.accepted i) Value ∷ error_unless (leb (length (w.written i)) room) OutputShort ∷ []))
    ∙ ap (λ (r : Option Refusal). first_error (r ∷ error_unless (leb (length b) room) OutputShort ∷ [])) e
