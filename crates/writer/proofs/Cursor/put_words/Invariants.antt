use Rattle.std.proofs.Common.{take}
use Rattle.records.specs.Layout.{wide}
use Rattle.writer.specs.Cursors.{Puts}
use Rattle.writer.proofs.Cursor.put_words.Given as goal

abbrev pub invariant-loop-word : goal.invariant-loop-word
invariant-loop-word l = Puts l.initial.self l.self (wide (take l.word-index l.words))
