-- A record as a text for people.
use Rattle.std.specs.Prelude.{ℕ, zero, suc, ◌/◌, ◌%◌, ◌^◌, Bool, cond, ◌&&◌, List, [], ◌∷◌, ◌++◌, length, codes, decimal, ◌==◌, bit_and}
use Rattle.patterns.specs.Kinds.{kind_number, has_first}
use Rattle.patterns.specs.declared.kind.Kind.{Kind}
use Rattle.patterns.specs.declared.proposition.Proposition.{Proposition}
use Rattle.records.specs.declared.Heading.{Heading}
use Rattle.records.specs.declared.verdict.Verdict.{Verdict}
use Rattle.records.specs.Layout.{Content}
use Rattle.records.specs.Numbers.{verdict_number, is_broken}
use Rattle.explain.specs.Words.{kind_words, verdict_words}

-- bit 0 is the lowest
abbrev pub has_bit : ℕ → ℕ → Bool
has_bit word bit = word / 2 ^ bit % 2 == 1

-- a line where a mask has the bit
abbrev pub bit_line : ℕ → ℕ → ℕ → List ℕ
bit_line mask bit value = cond (has_bit mask bit) (codes "  bit " ++ (decimal bit ++ (codes " is " ++ (decimal value ++ codes "\n")))) []

-- what a proposition asks of the bits below n, in rising order
abbrev pub bit_lines : Proposition → ℕ → List ℕ
bit_lines p zero = []
bit_lines p (suc n) = (bit_lines p n ++ bit_line p.on n 1) ++ bit_line p.off n 0

-- two cases in which the lines on bits alone could mislead
abbrev pub note : Proposition → List ℕ
note p =
    cond (p.on == 0 && p.off == 0) (codes "  no bit is asked for: it holds everywhere\n")
    (cond (bit_and p.on p.off == 0) [] (codes "  a bit is asked to be both 1 and 0: it holds nowhere\n"))

abbrev pub proposition_lines : List ℕ → Proposition → List ℕ
proposition_lines name p = name ++ (codes " holds in a state in whose word\n" ++ (bit_lines p 16 ++ note p))

abbrev pub p_lines : Heading → List ℕ
p_lines h = cond (has_first h.kind) (proposition_lines (codes "P") h.p) []

-- states, each behind a space
abbrev pub spaced : List ℕ → List ℕ
spaced [] = []
spaced (s ∷ ss) = codes " " ++ (decimal s ++ spaced ss)

abbrev pub states_line : List ℕ → List ℕ → List ℕ
states_line name states = name ++ (codes ", length " ++ (decimal (length states) ++ (codes ":" ++ (spaced states ++ codes "\n"))))

abbrev pub lasso_lines : Content → List ℕ
lasso_lines c = cond (is_broken c.heading.verdict) (states_line (codes "Stem") c.stem ++ states_line (codes "Loop") c.cycle) []

abbrev pub numbered_line : List ℕ → ℕ → List ℕ → List ℕ
numbered_line name number words = name ++ (codes " " ++ (decimal number ++ (codes ", " ++ (words ++ codes ".\n"))))

abbrev pub kind_line : Kind → List ℕ
kind_line kind = numbered_line (codes "Pattern") (kind_number kind) (kind_words kind)

abbrev pub verdict_line : Verdict → List ℕ
verdict_line v = numbered_line (codes "Verdict") (verdict_number v) (verdict_words v)

abbrev pub depth_line : ℕ → List ℕ
depth_line depth = codes "Depth " ++ (decimal depth ++ codes ": so many arrows the inspection followed from the initial states, step by step.\n")

abbrev pub preface : List ℕ
preface = codes "This record tells how a control graph was inspected for one pattern.\nA path starts in an initial state and follows arrows for ever. The pattern is asked of the places of every path.\nThe state at each place shows a word of 16 bits, bit 0 the lowest.\n"

-- unfolded only where its lines are written
unfoldable pub explanation : Content → List ℕ
explanation c =
    preface ++ (kind_line c.heading.kind ++ (p_lines c.heading ++ (proposition_lines (codes "Q") c.heading.q
    ++ (verdict_line c.heading.verdict ++ (depth_line c.heading.depth ++ lasso_lines c)))))
