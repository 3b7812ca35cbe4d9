-- The steps and tints of the six watches. A row goes by whether the mark is 1, whether P holds and whether Q holds.
use Rattle.std.specs.Prelude.{Bool, true, false}
use Rattle.watches.specs.declared.Told.{Told}
use Rattle.watches.specs.declared.Told.TheVariants.{Kept, Broken, Mark}
use Rattle.watches.specs.declared.Tint.{Tint}
use Rattle.watches.specs.declared.Tint.TheVariants.{Calm, Sore, Relief}

abbrev pub always_row : Bool → Told
always_row true = Mark 0
always_row false = Broken

abbrev pub eventual_row : Bool → Told
eventual_row true = Kept
eventual_row false = Mark 0

abbrev pub until_row : Bool → Bool → Told
until_row p true = Kept
until_row true false = Mark 0
until_row false false = Broken

abbrev pub until_stable_row : Bool → Bool → Bool → Told
until_stable_row false true q = Mark 0
until_stable_row false false true = Mark 1
until_stable_row false false false = Broken
until_stable_row true p true = Mark 1
until_stable_row true p false = Broken

abbrev pub until_stable_tint : Bool → Bool → Tint
until_stable_tint false false = Sore
until_stable_tint false true = Calm
until_stable_tint true q = Calm

abbrev pub leads_to_row : Bool → Bool → Bool → Told
leads_to_row false true false = Mark 1
leads_to_row false true true = Mark 0
leads_to_row false false q = Mark 0
leads_to_row true p true = Mark 0
leads_to_row true p false = Mark 1

abbrev pub leads_to_tint : Bool → Tint
leads_to_tint false = Relief
leads_to_tint true = Sore

abbrev pub conditional_stable_row : Bool → Bool → Told
conditional_stable_row false true = Mark 1
conditional_stable_row false false = Mark 0
conditional_stable_row true p = Mark 1

abbrev pub conditional_stable_tint : Bool → Bool → Tint
conditional_stable_tint true false = Sore
conditional_stable_tint true true = Calm
conditional_stable_tint false q = Calm
