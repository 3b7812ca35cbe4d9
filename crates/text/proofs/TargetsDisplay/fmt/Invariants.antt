use Rattle.std.specs.Fmt.{HasWritten, IsPlainFormatter}
use Rattle.text.specs.GraphText.{targets_text}
use Rattle.text.proofs.TargetsDisplay.fmt.Given as goal

abbrev pub invariant-loop-j : goal.invariant-loop-j
invariant-loop-j g l =
    IsPlainFormatter l.initial.f → HasWritten g.W.Write.write_str_gives l.initial.f (targets_text (g.S.Source.meaning l.self.source.now) l.self.state l.j) l.f
