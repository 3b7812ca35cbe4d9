-- What a watch meets on a stretch of words.
use Rattle.std.specs.Prelude.{ℕ, zero, suc, ◌*◌, ◌%◌, Bool, true, false, not, ◌&&◌, List, length, slice_index}
use Rattle.patterns.specs.Watch.{onward}
use Rattle.watches.specs.declared.Told.{Told}
use Rattle.watches.specs.declared.Told.TheVariants.{Kept, Broken, Mark}
use Rattle.watches.specs.declared.Tint.{Tint}
use Rattle.watches.specs.declared.Tint.TheVariants.{Calm, Sore, Relief}
use Rattle.judging.specs.declared.Walk.{Walk}

-- the tint of a place by what the watch says there; a watch that has stopped is calm
abbrev pub tint_at : (ℕ → ℕ → Tint) → Told → ℕ → Tint
tint_at tint Kept word = Calm
tint_at tint Broken word = Calm
tint_at tint (Mark m) word = tint m word

-- one place more, where the watch says `told` at a tint
abbrev pub noted : Walk → Told → Tint → Walk
noted walk told Calm = record { told = told; sore = walk.sore; relief = walk.relief }
noted walk told Sore = record { told = told; sore = true; relief = walk.relief }
noted walk told Relief = record { told = told; sore = walk.sore; relief = true }

-- nothing met yet
abbrev pub fresh : Told → Walk
fresh told = record { told = told; sore = false; relief = false }

module _ (step : ℕ → ℕ → Told) (tint : ℕ → ℕ → Tint) where
  -- one word more
  abbrev pub met : Walk → ℕ → Walk
  met walk word = noted walk (onward step walk.told word) (tint_at tint (onward step walk.told word) word)

  -- n words more
  abbrev pub walked : Walk → (ℕ → ℕ) → ℕ → Walk
  walked before words zero = before
  walked before words (suc n) = met (walked before words n) (words n)

  -- a list of words more, and so many turns of a loop
  abbrev pub along : Walk → List ℕ → Walk
  along before words = walked before (λ i. slice_index words i) (length words)

  abbrev pub turned : Walk → List ℕ → ℕ → Walk
  turned before loop turns = walked before (λ i. slice_index loop (i % length loop)) (turns * length loop)

  -- what is met on twelve turns of the loop, after the stem and four turns
  abbrev pub round : List ℕ → List ℕ → Walk
  round stem loop = turned (fresh (turned (along (fresh (Mark 0)) stem) loop 4).told) loop 12

-- broken, or sore and never relief
abbrev pub rejected_at : Told → Bool → Bool → Bool
rejected_at Kept sore relief = false
rejected_at Broken sore relief = true
rejected_at (Mark m) sore relief = sore && not relief

abbrev pub rejected : Walk → Bool
rejected walk = rejected_at walk.told walk.sore walk.relief
