-- What writing and reading have to do with one another.
use Rattle.std.specs.Prelude.{◌≡◌, ℕ, ◌≤◌, true, List, length, take, None}
use Rattle.records.specs.declared.Record.{Record}
use Rattle.records.specs.declared.Found.{Found}
use Rattle.records.specs.Layout.{Content, valid, encoding, of_bytes}
use Rattle.records.specs.Refusals.{refusal}

-- a record to be written
abbrev pub of_record : Record → Content
of_record r = record { heading = r.heading; stem = r.stem.now; cycle = r.cycle.now }

-- a record that was read, with what the two lists hold
abbrev pub of_found : Found → List ℕ → List ℕ → Content
of_found f stem cycle = record { heading = f.heading; stem = take f.stem stem; cycle = take f.cycle cycle }

-- the reader accepts these bytes, and they read as this record
pub record Reads (b : List ℕ) (c : Content) : Type 0 where
  pub accepted : refusal b ≡ None
  pub read : of_bytes b ≡ c

-- the writer accepts this record, and these are its bytes
pub record Writes (c : Content) (b : List ℕ) : Type 0 where
  pub accepted : valid c ≡ true
  pub written : encoding c ≡ b

-- what was found is this record, and each list is long enough to hold its part
pub record Tells (f : Found) (stem_room cycle_room : ℕ) (c : Content) : Type 0 where
  pub heading_is : f.heading ≡ c.heading
  pub stem_is : f.stem ≡ length c.stem
  pub cycle_is : f.cycle ≡ length c.cycle
  pub stem_fits : f.stem ≤ stem_room
  pub cycle_fits : f.cycle ≤ cycle_room
