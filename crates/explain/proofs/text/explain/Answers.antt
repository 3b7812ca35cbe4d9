use Rattle.std.proofs.Common.{◌++◌, ◌∙◌}
use Rattle.std.proofs.lemmas.Result.{IfOk-weaker}
use Rattle.explain.specs.Text.{preface, explanation}
use Rattle.explain.proofs.text.explain.Goals as goal

pub returns : goal.returns
unfolding explanation
returns c =
    IfOk-weaker c.format.result _ _
    (λ s e. e ∙ (λ i. preface ++ (c.in_ok-kind.ensures i ++ (c.in_ok-p.ensures i ++ (c.in_ok-q.ensures i
    ++ (c.in_ok-verdict.ensures i ++ (c.in_ok-depth.ensures i ++ c.in_ok-lasso.ensures i)))))))
    c.format.ensures.ok
