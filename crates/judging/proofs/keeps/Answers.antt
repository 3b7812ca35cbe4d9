use Rattle.judging.proofs.Keeping.{unbroken}
use Rattle.judging.proofs.keeps.Goals as goal

pub returns : goal.returns
returns c = let (some, breaks) = c.in_ok-judge.ensures in (some, unbroken _ _ _ some _ breaks)
