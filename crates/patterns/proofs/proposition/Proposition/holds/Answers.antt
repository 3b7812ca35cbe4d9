use Rattle.patterns.proofs.Bitwise.{bits_of}
use Rattle.patterns.proofs.proposition.Proposition.holds.Goals as goal

pub returns-clause-bits : goal.returns-clause-bits
returns-clause-bits c = bits_of c.args.self.on c.args.self.off c.args.word c.has.ensures
