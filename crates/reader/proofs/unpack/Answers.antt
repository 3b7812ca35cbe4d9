use Rattle.std.proofs.Common.{◌≡◌, [], length, set, sym, ap, ◌∙◌, arith}
use Rattle.std.proofs.lemmas.List.{get_or-map, length-map}
use Rattle.graph.specs.Bytes.{pair}
use Rattle.reader.specs.Parts.{numbers}
use Rattle.reader.proofs.Chunks.{unpack_more}
use Rattle.reader.proofs.unpack.Goals as goal

pub loop-i-preserved : goal.loop-i-preserved
loop-i-preserved c =
    let ns = numbers c.args.column.now in
    let i = c.loop-i.i in
    let long : length ns ≡ length c.args.column.now = length-map c.args.column.now _ in
    let here = c.from_be_bytes.ensures ∙ sym (get_or-map (λ p. pair p 0) c.args.column.now i [] 0 c.loop-i-test.true) in
    ap (λ r. set r i c.from_be_bytes.result) c.loop-i.invariant
    ∙ unpack_more ns c.args.list.now i c.from_be_bytes.result here (omega arith) (omega arith)
