-- What several writes by one cursor come to.
use Rattle.std.proofs.Common.{◌≡◌, ℕ, ◌+◌, ◌*◌, ◌%◌, ◌<◌, ◌≤◌, ◌^◌, List, [], ◌∷◌, ◌++◌, length, get_or, take, sym, refl, ap, ◌∙◌, arith}
use Rattle.std.specs.Int.{w16, to_be_bytes}
use Rattle.std.proofs.lemmas.List.{length-append, take_more}
use Rattle.std.proofs.lemmas.List.Edits.{paste_all, paste-paste, length-paste}
use lib.Seq.{paste}
use Rattle.records.specs.Layout.{wide}
use Rattle.records.specs.Places.{put}
use Rattle.records.proofs.Packs.{length_wide, wide_append}
use Rattle.writer.specs.Cursors.{Puts}
use Rattle.writer.specs.declared.Cursor.{Cursor}

put_pasted : (w : List ℕ) (at : ℕ) (xs : List ℕ) → paste w at xs (length xs) ≡ put at xs w
put_pasted w at xs = paste_all w at xs (length xs) refl

length_put : (w : List ℕ) (at : ℕ) (xs : List ℕ) → at + length xs ≤ length w → length (put at xs w) ≡ length w
length_put w at xs h = ap length (sym (put_pasted w at xs)) ∙ length-paste w at xs (length xs) h (omega arith)

-- `ys` right behind `xs`
put_put : (w : List ℕ) (at : ℕ) (xs ys : List ℕ) → at ≤ length w → put (at + length xs) ys (put at xs w) ≡ put at (xs ++ ys) w
put_put w at xs ys h =
    ap (put (at + length xs) ys) (sym (put_pasted w at xs))
    ∙ sym (put_pasted (paste w at xs (length xs)) (at + length xs) ys)
    ∙ paste-paste w at xs ys (length xs) (length ys) refl refl h
    ∙ ap (paste w at (xs ++ ys)) (sym (length-append xs ys))
    ∙ put_pasted w at (xs ++ ys)

pub room_left : (a b : Cursor) (xs : List ℕ) → Puts a b xs → a.at + length xs ≤ length a.out.now → length b.out.now ≡ length a.out.now
room_left a b xs p h = ap length p.written ∙ length_put a.out.now a.at xs h

pub puts_more : (a b c : Cursor) (xs ys : List ℕ) → Puts a b xs → Puts b c ys → a.at ≤ length a.out.now → Puts a c (xs ++ ys)
puts_more a b c xs ys p q h = record {
  same_output = q.same_output ∙ p.same_output;
  written = q.written ∙ (λ i. put (p.end i) ys (p.written i)) ∙ put_put a.out.now a.at xs ys h;
  end = omega (arith, p.end, q.end, length-append xs ys);
}

-- a number below 2 ^ 16 in two bytes
pub wide_one : (n : ℕ) → n < 2 ^ 16 → to_be_bytes w16 n ≡ wide (n ∷ [])
wide_one n h = ap (λ (x : ℕ). x ∷ n % 256 ∷ []) (omega arith)

pub wide_more : (ws : List ℕ) (i : ℕ) → i < length ws → get_or ws i 0 < 2 ^ 16 → wide (take i ws) ++ to_be_bytes w16 (get_or ws i 0) ≡ wide (take (i + 1) ws)
wide_more ws i h fits =
    ap (λ (b : List ℕ). wide (take i ws) ++ b) (wide_one (get_or ws i 0) fits)
    ∙ sym (ap wide (take_more ws i 0 h) ∙ wide_append (take i ws) (get_or ws i 0 ∷ []))

pub end_of_words : (a b : Cursor) (ws : List ℕ) → Puts a b (wide ws) → b.at ≡ a.at + 2 * length ws
end_of_words a b ws p = omega (arith, p.end, length_wide ws)
