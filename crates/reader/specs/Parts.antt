-- What is known of bytes once some of their tests have been passed.
use Rattle.std.specs.Prelude.{◌≡◌, ℕ, ◌≤◌, List, length, map}
use Rattle.records.specs.declared.Heading.{Heading}
use Rattle.graph.specs.Bytes.{pair}
use Rattle.records.specs.Layout.{has_p, has_depth, has_lasso, heading_of, stem_count, cycle_count, stem_of, cycle_of}
use Rattle.reader.specs.declared.Standing.{Standing}

-- the bits of the map byte
pub record ToldBy (map : ℕ) (stands : Standing) : Type 0 where
  pub p_is : stands.p ≡ has_p map
  pub depth_is : stands.depth ≡ has_depth map
  pub lasso_is : stands.lasso ≡ has_lasso map

-- the numbers in pieces of two bytes each
abbrev pub numbers : List (List ℕ) → List ℕ
numbers pieces = map (λ piece. pair piece 0) pieces

-- both lengths, once tested
pub record Counted (b : List ℕ) (stem cycle : ℕ) : Type 0 where
  pub stem_is : stem ≡ stem_count b
  pub cycle_is : cycle ≡ cycle_count b
  pub stem_short : stem ≤ 5120
  pub cycle_short : cycle ≤ 4096

-- stem and loop, once tested
pub record Columns (b : List ℕ) (stem cycle : List (List ℕ)) : Type 0 where
  pub stem_is : numbers stem ≡ stem_of b
  pub cycle_is : numbers cycle ≡ cycle_of b
  pub stem_short : length stem ≤ 5120
  pub cycle_short : length cycle ≤ 4096

-- and the heading
pub record Framed (b : List ℕ) (heading : Heading) (stem cycle : List (List ℕ)) : Type 0 where
  pub heading_is : heading ≡ heading_of b
  pub columns : Columns b stem cycle
