-- What a reader took off the front of a list of bytes, and the rest.
use Rattle.std.specs.Prelude.{◌≡◌, ℕ, ◌≤◌, Bool, cond, List, length, drop, None, ◌==◌, bit_and}
use Rattle.graph.specs.Bytes.{pair}
use Rattle.meanings.specs.declared.Rule.{Rule}
use Rattle.meanings.specs.RuleList.{masks, masks_size, front_rule, behind_rule, from_rule, rules, bits, count, start, body, header_fault, list_fault}

abbrev pub has_bit : ℕ → ℕ → Bool
has_bit map bit = bit_and map bit == bit

abbrev pub mask_size : Bool → ℕ
mask_size stands = cond stands 2 0

pub record MaskRead (stands : Bool) (l : List ℕ) (value : ℕ) (rest : List ℕ) : Type 0 where
  pub enough : mask_size stands ≤ length l
  pub value_is : value ≡ cond stands (pair l 0) 0
  pub rest_is : rest ≡ drop (mask_size stands) l

pub record MasksRead (map : ℕ) (l : List ℕ) (rule : Rule) (rest : List ℕ) : Type 0 where
  pub enough : masks_size map ≤ length l
  pub rule_is : rule ≡ masks map l
  pub rest_is : rest ≡ drop (masks_size map) l

pub record RuleRead (l : List ℕ) (rule : Rule) (rest : List ℕ) : Type 0 where
  pub rule_is : rule ≡ front_rule l
  pub rest_is : rest ≡ behind_rule l

pub record RulesRead (l : List ℕ) (n : ℕ) (read : List Rule) (rest : List ℕ) : Type 0 where
  pub rules_are : read ≡ rules l n
  pub rest_is : rest ≡ from_rule l n

-- where the rules of a list begin, and its initial value, by its map byte
abbrev pub after_header : ℕ → ℕ
after_header map = cond (has_bit map 1) 5 3

abbrev pub start_by : ℕ → List ℕ → ℕ
start_by map b = cond (has_bit map 1) (pair b 3) 0

pub record StartRead (map : ℕ) (b : List ℕ) (first : ℕ) (rest : List ℕ) : Type 0 where
  pub start_is : first ≡ start_by map b
  pub rest_is : rest ≡ drop (after_header map) b

-- the header of a rule list has no fault
pub record HeaderRead (b : List ℕ) (width n first : ℕ) (rest : List ℕ) : Type 0 where
  pub no_fault : header_fault b ≡ None
  pub bits_is : width ≡ bits b
  pub count_is : n ≡ count b
  pub start_is : first ≡ start b
  pub rest_is : rest ≡ body b

-- nor has the whole list
pub record ListRead (b : List ℕ) (width first : ℕ) (read : List Rule) : Type 0 where
  pub no_fault : list_fault b ≡ None
  pub bits_is : width ≡ bits b
  pub start_is : first ≡ start b
  pub rules_are : read ≡ rules (body b) (count b)
