-- The text of a graph: words in four hexadecimal digits, all else in base ten, a line to a state.
use Rattle.std.specs.Prelude.{ℕ, zero, suc, ◌+◌, ◌/◌, ◌%◌, Bool, true, false, cond, List, [], ◌∷◌, ◌++◌, Some, None, codes, decimal, Option, nat_lt}
use Rattle.graph.specs.Graph.{Graph}
use Rattle.meanings.specs.declared.Columns.{Columns}

abbrev pub newline : List ℕ
newline = 10 ∷ []

-- a word
abbrev pub hex_digit : ℕ → ℕ
hex_digit d = cond (nat_lt d 10) (48 + d) (87 + d)

abbrev pub word_text : ℕ → List ℕ
word_text w = hex_digit (w / 4096 % 16) ∷ hex_digit (w / 256 % 16) ∷ hex_digit (w / 16 % 16) ∷ hex_digit (w % 16) ∷ []

-- where the first n arrows of a state lead
abbrev pub target_text : Option ℕ → List ℕ
target_text None = []
target_text (Some t) = codes " " ++ decimal t

abbrev pub targets_text : Graph → ℕ → ℕ → List ℕ
targets_text g s zero = []
targets_text g s (suc j) = targets_text g s j ++ target_text (g.target s j)

abbrev pub initial_text : Bool → List ℕ
initial_text true = codes " initial"
initial_text false = []

-- the line of a state
abbrev pub state_text : Graph → ℕ → List ℕ
state_text g s =
    codes "state " ++ (decimal s ++ (initial_text (g.initial s)
    ++ (codes " word " ++ (word_text (g.word s) ++ (codes " to" ++ (targets_text g s (g.degree s) ++ newline))))))

abbrev pub states_text : Graph → ℕ → List ℕ
states_text g zero = []
states_text g (suc n) = states_text g n ++ state_text g n

-- how many arrows the first n states have
abbrev pub arrows : Graph → ℕ → ℕ
arrows g zero = 0
arrows g (suc n) = arrows g n + g.degree n

-- the columns that stand, where the graph comes from a table
abbrev pub columns_names : Bool → Bool → List ℕ
columns_names true true = codes "columns words initial"
columns_names true false = codes "columns words"
columns_names false true = codes "columns initial"
columns_names false false = codes "columns none"

abbrev pub columns_text : Option Columns → List ℕ
columns_text None = []
columns_text (Some c) = columns_names c.words c.initials ++ newline

abbrev pub graph_text : Option Columns → Graph → List ℕ
graph_text columns g =
    codes "states " ++ (decimal g.states ++ (newline
    ++ (codes "arrows " ++ (decimal (arrows g g.states) ++ (newline
    ++ (columns_text columns ++ states_text g g.states))))))
