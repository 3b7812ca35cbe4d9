-- What a table tells of a state that is not there, and of one that is.
use Rattle.std.proofs.Common.{◌≡◌, ℕ, ◌+◌, ◌-◌, ◌<◌, ◌≤◌, ltb, cond, false, List, Some, None, Option, refl}
use Rattle.std.proofs.lemmas.Bool.{lt-ltb, le-ltb}
use Rattle.graph.specs.declared.fault.Fault.{Fault}
use Rattle.meanings.specs.Table.{count, row, before, target, word_of, initial_of, by_fault, table_fault, table}
use Rattle.meanings.proofs.TableSound.{table_sound}

pub no_initial : (b : List ℕ) (s : ℕ) → (table b).states ≤ s → (table b).initial s ≡ false
no_initial b = (table_sound b).not_initial

pub no_word : (b : List ℕ) (s : ℕ) → (table b).states ≤ s → (table b).word s ≡ 0
no_word b = (table_sound b).no_word

pub no_degree : (b : List ℕ) (s : ℕ) → (table b).states ≤ s → (table b).degree s ≡ 0
no_degree b = (table_sound b).no_arrow

pub no_target : (b : List ℕ) (s j : ℕ) → (table b).states ≤ s → (table b).target s j ≡ None
no_target b s j = go (table_fault b)
  where
    go : (o : Option Fault) → (by_fault o b).states ≤ s → (by_fault o b).target s j ≡ None
    go None h = rw (le-ltb s (count b) h)
    go (Some f) h = refl

pub initial_there : (b : List ℕ) (s : ℕ) → table_fault b ≡ None → s < count b → (table b).initial s ≡ initial_of b s
initial_there b s e h = rw (e, lt-ltb s (count b) h)

pub word_there : (b : List ℕ) (s : ℕ) → table_fault b ≡ None → s < count b → (table b).word s ≡ word_of b s
word_there b s e h = rw (e, lt-ltb s (count b) h)

pub degree_there : (b : List ℕ) (s : ℕ) → table_fault b ≡ None → s < count b → (table b).degree s ≡ row b s - before b s
degree_there b s e h = rw (e, lt-ltb s (count b) h)

pub target_there : (b : List ℕ) (s j : ℕ) → table_fault b ≡ None → s < count b → (table b).target s j ≡ cond (ltb j (row b s - before b s)) (Some (target b (before b s + j))) None
target_there b s j e h = rw (e, lt-ltb s (count b) h)

pub ruleset questions = (no_initial, no_word, no_degree, no_target, initial_there, word_there, degree_there, target_there)
