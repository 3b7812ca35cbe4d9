-- A record and its bytes: three bytes, then fields of two bytes each, the high byte first.
use Rattle.std.specs.Prelude.{ℕ, zero, suc, ◌+◌, ◌*◌, ◌/◌, ◌%◌, Bool, cond, ◌&&◌, ◌||◌, List, [], ◌∷◌, ◌++◌, length, drop, ◌==◌, nat_le, nat_lt}
use Rattle.std.specs.List.{list_all}
use Rattle.std.specs.Option.{unwrap_or}
use Rattle.graph.specs.Bytes.{byte, pair}
use Rattle.patterns.specs.Kinds.{kind_number, kind_of, has_first}
use Rattle.patterns.specs.declared.kind.Kind.{Kind}
use Rattle.patterns.specs.declared.kind.Kind.TheVariants.{Always}
use Rattle.patterns.specs.declared.proposition.Proposition.{Proposition}
use Rattle.records.specs.declared.Heading.{Heading}
use Rattle.records.specs.declared.verdict.Verdict.{Verdict}
use Rattle.records.specs.declared.verdict.Verdict.TheVariants.{Open}
use Rattle.records.specs.Numbers.{verdict_number, verdict_of, is_broken}

-- what a record says
pub record Content : Type 0 where
  pub heading : Heading
  pub stem : List ℕ
  pub cycle : List ℕ

-- Writing -------------------------------------------------------------------

-- numbers in two bytes each
abbrev pub wide : List ℕ → List ℕ
wide [] = []
wide (w ∷ ws) = w / 256 ∷ w % 256 ∷ wide ws

-- the map byte says which fields stand, that is, are written at all: bit 0 P, bit 1 the depth, bit 2 the lasso
abbrev pub map_of : Heading → ℕ
map_of h = cond (has_first h.kind) 1 0 + cond (nat_lt 0 h.depth) 2 0 + cond (is_broken h.verdict) 4 0

abbrev pub front : Heading → List ℕ
front h = map_of h ∷ kind_number h.kind ∷ verdict_number h.verdict ∷ []

abbrev pub q_fields : Heading → List ℕ
q_fields h = h.q.on ∷ h.q.off ∷ []

abbrev pub p_fields : Heading → List ℕ
p_fields h = cond (has_first h.kind) (h.p.on ∷ h.p.off ∷ []) []

abbrev pub depth_fields : Heading → List ℕ
depth_fields h = cond (nat_lt 0 h.depth) (h.depth ∷ []) []

abbrev pub length_fields : Content → List ℕ
length_fields c = cond (is_broken c.heading.verdict) (length c.stem ∷ length c.cycle ∷ []) []

abbrev pub fields : Content → List ℕ
fields c = q_fields c.heading ++ (p_fields c.heading ++ (depth_fields c.heading ++ (length_fields c ++ (c.stem ++ c.cycle))))

-- the bytes of a record
abbrev pub encoding : Content → List ℕ
encoding c = front c.heading ++ wide (fields c)

-- states are numbered up to 1,023
abbrev pub states_ok : List ℕ → Bool
states_ok ss = list_all (λ s. nat_lt s 1024) ss

abbrev pub lasso_ok : List ℕ → List ℕ → Bool
lasso_ok stem cycle =
    nat_le (length stem) 5120 && (nat_le 1 (length cycle) && (nat_le (length cycle) 4096 && (states_ok stem && states_ok cycle)))

-- a record that can be written: a field that does not stand is 0 or empty
abbrev pub valid : Content → Bool
valid c =
    (has_first c.heading.kind || (c.heading.p.on == 0 && c.heading.p.off == 0))
    && cond (is_broken c.heading.verdict) (lasso_ok c.stem c.cycle) (length c.stem == 0 && length c.cycle == 0)

-- what a list holds once `part` was written at its front: the rest is as before
abbrev pub laid : List ℕ → List ℕ → List ℕ
laid part whole = part ++ drop (length part) whole

-- and after a call that may refuse: then all of it is as before
abbrev pub laid_if : Bool → List ℕ → List ℕ → List ℕ
laid_if ok part whole = cond ok (laid part whole) whole

-- Reading -------------------------------------------------------------------

-- n numbers of two bytes each, from an offset on
abbrev pub pairs : List ℕ → ℕ → ℕ → List ℕ
pairs b at zero = []
pairs b at (suc n) = pairs b at n ++ (pair b (at + 2 * n) ∷ [])

-- the bits of the map byte
abbrev pub has_p : ℕ → Bool
has_p map = map % 2 == 1

abbrev pub has_depth : ℕ → Bool
has_depth map = map / 2 % 2 == 1

abbrev pub has_lasso : ℕ → Bool
has_lasso map = map / 4 % 2 == 1

-- where fields begin: Q at 3, P at 7 if it stands, then depth, lengths, stem and loop
abbrev pub depth_at : ℕ → ℕ
depth_at map = cond (has_p map) 11 7

abbrev pub lengths_at : ℕ → ℕ
lengths_at map = depth_at map + cond (has_depth map) 2 0

abbrev pub stem_at : ℕ → ℕ
stem_at map = lengths_at map + cond (has_lasso map) 4 0

abbrev pub stem_count : List ℕ → ℕ
stem_count b = cond (has_lasso (byte b 0)) (pair b (lengths_at (byte b 0))) 0

abbrev pub cycle_count : List ℕ → ℕ
cycle_count b = cond (has_lasso (byte b 0)) (pair b (lengths_at (byte b 0) + 2)) 0

abbrev pub cycle_at : List ℕ → ℕ
cycle_at b = stem_at (byte b 0) + 2 * stem_count b

abbrev pub end_of : List ℕ → ℕ
end_of b = cycle_at b + 2 * cycle_count b

-- what the fields say. A byte that is no pattern or no verdict is refused, so what stands for it here never shows
abbrev pub kind_in : List ℕ → Kind
kind_in b = unwrap_or (kind_of (byte b 1)) Always

abbrev pub verdict_in : List ℕ → Verdict
verdict_in b = unwrap_or (verdict_of (byte b 2)) Open

abbrev pub q_of : List ℕ → Proposition
q_of b = record { on = pair b 3; off = pair b 5 }

abbrev pub p_of : List ℕ → Proposition
p_of b = cond (has_p (byte b 0)) (record { on = pair b 7; off = pair b 9 }) (record { on = 0; off = 0 })

abbrev pub depth_of : List ℕ → ℕ
depth_of b = cond (has_depth (byte b 0)) (pair b (depth_at (byte b 0))) 0

abbrev pub heading_of : List ℕ → Heading
heading_of b = record { kind = kind_in b; verdict = verdict_in b; p = p_of b; q = q_of b; depth = depth_of b }

abbrev pub stem_of : List ℕ → List ℕ
stem_of b = pairs b (stem_at (byte b 0)) (stem_count b)

abbrev pub cycle_of : List ℕ → List ℕ
cycle_of b = pairs b (cycle_at b) (cycle_count b)

-- the record that bytes hold
abbrev pub of_bytes : List ℕ → Content
of_bytes b = record { heading = heading_of b; stem = stem_of b; cycle = cycle_of b }
