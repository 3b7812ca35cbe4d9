use Rattle.std.proofs.Common.{◌≡◌, ℕ, ◌+◌, ◌*◌, ◌≤◌, List, ◌++◌, length, ap, subst, arith}
use Rattle.std.proofs.lemmas.List.{length-append}
use Rattle.records.specs.Layout.{Content, wide, front, q_fields, p_fields, depth_fields, length_fields, encoding}
use Rattle.records.specs.Round.{of_record}
use Rattle.records.proofs.Packs.{length_wide}
use Rattle.records.proofs.Writes.{sections}
use Rattle.writer.specs.declared.Cursor.{Cursor}
use Rattle.writer.specs.Cursors.{Puts}
use Rattle.writer.proofs.Cursors.{room_left, puts_more}
use Rattle.writer.proofs.Cursor.put_record.Goals as goal

-- what stands in front of the stem
abbrev to_stem : Content → List ℕ
to_stem t = (((front t.heading ++ wide (q_fields t.heading)) ++ wide (p_fields t.heading)) ++ wide (depth_fields t.heading)) ++ wide (length_fields t)

stem_room : (t : Content) (a b : Cursor) → Puts a b (to_stem t) → a.at + length (encoding t) ≤ length a.out.now → b.at + 2 * length t.stem + 2 * length t.cycle ≤ length b.out.now
stem_room t a b p room =
    let all : length ((to_stem t ++ wide t.stem) ++ wide t.cycle) ≡ length (encoding t) = ap length (sections t) in
    let long : a.at + length (to_stem t) + 2 * length t.stem + 2 * length t.cycle ≤ length a.out.now =
    omega (arith, length-append (to_stem t ++ wide t.stem) (wide t.cycle), length-append (to_stem t) (wide t.stem), length_wide t.stem, length_wide t.cycle) in
    omega (arith, p.end, room_left a b (to_stem t) p (omega arith))

before_stem : (t : Content) (a a₁ a₂ a₃ a₄ b : Cursor) → a.at ≤ length a.out.now → Puts a a₁ (front t.heading) → Puts a₁ a₂ (wide (q_fields t.heading)) →
    Puts a₂ a₃ (wide (p_fields t.heading)) → Puts a₃ a₄ (wide (depth_fields t.heading)) → Puts a₄ b (wide (length_fields t)) → Puts a b (to_stem t)
before_stem t a a₁ a₂ a₃ a₄ b room f q p d l =
    puts_more _ _ _ _ _ (puts_more _ _ _ _ _ (puts_more _ _ _ _ _ (puts_more _ _ _ _ _ f q room) p room) d room) l room

pub put_words-requires-2 : goal.put_words-requires-2
put_words-requires-2 c =
    let t = of_record c.args.tested.filing in
    let start = before_stem t _ _ _ _ _ _ (omega arith) c.put_front.ensures c.put_words.ensures c.put_p.ensures c.put_depth.ensures c.put_lengths.ensures in
    record { room = omega (arith, stem_room t _ _ start c.requires.room) }

pub put_words-requires-3 : goal.put_words-requires-3
put_words-requires-3 c =
    let t = of_record c.args.tested.filing in
    let start = before_stem t _ _ _ _ _ _ (omega arith) c.put_front.ensures c.put_words.ensures c.put_p.ensures c.put_depth.ensures c.put_lengths.ensures in
    let room = stem_room t _ _ start c.requires.room in
    let long = length_wide t.stem in
    record { room = omega (arith, c.put_words-2.ensures.end, room_left _ _ _ c.put_words-2.ensures (omega arith)) }

pub returns : goal.returns
returns c =
    let t = of_record c.args.tested.filing in
    let start = before_stem t _ _ _ _ _ _ (omega arith) c.put_front.ensures c.put_words.ensures c.put_p.ensures c.put_depth.ensures c.put_lengths.ensures in
    subst (Puts c.args.self.now c.put_words-3.new.self) (sections t)
    (puts_more _ _ _ _ _ (puts_more _ _ _ _ _ start c.put_words-2.ensures (omega arith)) c.put_words-3.ensures (omega arith))
