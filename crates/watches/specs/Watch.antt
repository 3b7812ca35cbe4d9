-- What a watch says of a sequence of words, and the law that ties it to a path rule.
use Rattle.std.specs.Prelude.{◌≡◌, ℕ, zero, suc, ◌<◌, ◌≤◌, ◌⊎◌, ◌↔◌, List, length}
use Rattle.graph.specs.Lassos.{lasso}
use Rattle.watches.specs.declared.Told.{Told}
use Rattle.watches.specs.declared.Told.TheVariants.{Kept, Broken, Mark}
use Rattle.watches.specs.declared.Tint.{Tint}
use Rattle.watches.specs.declared.Tint.TheVariants.{Sore, Relief}

-- the watch stops at kept and at broken, and else takes the next word
abbrev pub onward : (ℕ → ℕ → Told) → Told → ℕ → Told
onward step Kept word = Kept
onward step Broken word = Broken
onward step (Mark m) word = step m word

-- what the watch says when it was fed the first n words
abbrev pub fed : (ℕ → ℕ → Told) → (ℕ → ℕ) → ℕ → Told
fed step words zero = Mark 0
fed step words (suc n) = onward step (fed step words n) (words n)

-- what the watch says at place i
abbrev pub after : (ℕ → ℕ → Told) → (ℕ → ℕ) → ℕ → Told
after step words i = fed step words (suc i)

module _ (step : ℕ → ℕ → Told) (tint : ℕ → ℕ → Tint) (words : ℕ → ℕ) where
  -- at place i the watch stands at a mark, and the mark has the tint t there
  abbrev pub Tinted : Tint → ℕ → Type 0
  Tinted t i = (m : ℕ) × (after step words i ≡ Mark m) × (tint m (words i) ≡ t)

  -- the watch never stops, sore places never cease, and from some place on none is relief
  pub record StaysSore : Type 0 where
    pub open_ended : (i : ℕ) → (m : ℕ) × (after step words i ≡ Mark m)
    pub sore : (n : ℕ) → (i : ℕ) × (n ≤ i) × Tinted Sore i
    pub unrelieved : (k : ℕ) × ((i : ℕ) → k ≤ i → Tinted Relief i → ⊥)

  -- the watch rejects the sequence: it says broken somewhere, or stays sore
  abbrev pub Rejects : Type 0
  Rejects = ((i : ℕ) × (after step words i ≡ Broken)) ⊎ StaysSore

abbrev pub Breaks : ((ℕ → ℕ) → Type 0) → (ℕ → ℕ) → Type 0
Breaks keeps words = keeps words → ⊥

-- a mark that a step answers is below the count
abbrev pub MarkBelow : ℕ → Told → Type 0
MarkBelow count Kept = Unit {0}
MarkBelow count Broken = Unit {0}
MarkBelow count (Mark m) = m < count

-- what a pattern must show
pub record Lawful (count : ℕ) (keeps : (ℕ → ℕ) → Type 0) (step : ℕ → ℕ → Told) (tint : ℕ → ℕ → Tint) : Type 0 where
  pub below : (m word : ℕ) → MarkBelow count (step m word)
  pub beyond : (m word : ℕ) → count ≤ m → (step m word ≡ step 0 word) × (tint m word ≡ tint 0 word)
  -- a lasso breaks the rule exactly if the watch rejects it
  pub rejects : (stem loop : List ℕ) → 0 < length loop → Breaks keeps (lasso stem loop) ↔ Rejects step tint (lasso stem loop)
