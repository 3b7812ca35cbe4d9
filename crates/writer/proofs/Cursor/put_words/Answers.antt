use Rattle.std.proofs.Common.{◌≡◌, ◌*◌, ◌++◌, ◌<◌, ◌^◌, length, get_or, take, ap, subst, ◌∙◌, arith}
use Rattle.std.proofs.lemmas.List.{length-take-le}
use Rattle.records.specs.Layout.{wide}
use Rattle.records.proofs.Packs.{length_wide}
use Rattle.writer.specs.Cursors.{Puts}
use Rattle.writer.proofs.Cursors.{room_left, puts_more, wide_more}
use Rattle.writer.proofs.Cursor.put_words.Goals as goal

pub put-requires : goal.put-requires
put-requires c =
    let ws = c.args.words.now in
    let i = c.loop-word.word-index in
    let long : length (wide (take i ws)) ≡ 2 * i = length_wide (take i ws) ∙ ap (λ k. 2 * k) (length-take-le i ws (omega arith)) in
    let left = room_left c.args.self.now c.loop-word.self (wide (take i ws)) c.loop-word.invariant (omega arith) in
    let two : length c.to_be_bytes.result ≡ 2 = ap length c.to_be_bytes.ensures in
    record { room = omega (arith, c.loop-word.invariant.end) }

pub loop-word-preserved : goal.loop-word-preserved
loop-word-preserved c =
    let ws = c.args.words.now in
    let i = c.loop-word.word-index in
    let fits : get_or ws i 0 < 2 ^ 16 = omega (arith, c.type_inv.words i) in
    let both = puts_more _ _ _ _ _ c.loop-word.invariant c.put.ensures (omega arith) in
    subst (Puts c.args.self.now c.put.new.self)
    (ap (λ b. wide (take i ws) ++ b) c.to_be_bytes.ensures ∙ wide_more ws i c.loop-word-test.true fits) both
