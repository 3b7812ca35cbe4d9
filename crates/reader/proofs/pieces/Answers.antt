use Rattle.std.proofs.Common.{◌≡◌, ◌+◌, ◌-◌, ◌*◌, ◌/◌, length, take, drop, ap, ◌∙◌, arith}
use Rattle.std.specs.Simd.{first_chunks}
use Rattle.std.proofs.lemmas.List.{length-take-le, length-drop}
use Rattle.reader.proofs.Chunks.{numbers_from}
use Rattle.reader.specs.Parts.{numbers}
use Rattle.reader.proofs.pieces.Goals as goal

pub returns-clause-value : goal.returns-clause-value
returns-clause-value c =
    let b = c.args.bytes.now in
    let at = c.args.at in
    let n = c.args.count in
    let m = at + 2 * n - at in
    let many : length (take m (drop at b)) / 2 ≡ n = omega (arith, length-take-le m (drop at b) (omega (arith, length-drop at b))) in
    ap numbers (c.as_chunks.ensures.front ∙ ap (λ k. first_chunks 2 k (take m (drop at b))) many)
    ∙ numbers_from b at n m (omega arith)
