use Rattle.std.proofs.Common.{◌++◌, codes, ◌∙◌}
use Rattle.std.proofs.lemmas.Result.{IfOk-weaker}
use Rattle.explain.proofs.text.proposition_lines.Goals as goal

pub returns : goal.returns
returns c =
    IfOk-weaker c.format.result _ _
    (λ s e. e ∙ (λ i. c.args.name.now ++ (codes " holds in a state in whose word\n" ++ (c.in_ok-bits.ensures i ++ c.note-note.ensures i))))
    c.format.ensures.ok
