-- Patterns and verdicts by their numbers, there and back.
use Rattle.std.proofs.Common.{◌≡◌, ℕ, true, is_some, unwrap_or, refl, arith}
use Rattle.std.proofs.lemmas.Bool.Decides.{nat_tests}
use Rattle.patterns.specs.Kinds.{kind_number, kind_of}
use Rattle.patterns.specs.declared.kind.Kind.{Kind}
use Rattle.patterns.specs.declared.kind.Kind.TheVariants.{Always, Eventual, Until, UntilStable, LeadsTo, ConditionalStable}
use Rattle.records.specs.declared.verdict.Verdict.{Verdict}
use Rattle.records.specs.declared.verdict.Verdict.TheVariants.{Open, Kept, Broken}
use Rattle.records.specs.Numbers.{verdict_number, verdict_of}

pub kind_back : (k : Kind) → (is_some (kind_of (kind_number k)) ≡ true) × (unwrap_or (kind_of (kind_number k)) Always ≡ k)
kind_back Always = (refl, refl)
kind_back Eventual = (refl, refl)
kind_back Until = (refl, refl)
kind_back UntilStable = (refl, refl)
kind_back LeadsTo = (refl, refl)
kind_back ConditionalStable = (refl, refl)

pub verdict_back : (v : Verdict) → (is_some (verdict_of (verdict_number v)) ≡ true) × (unwrap_or (verdict_of (verdict_number v)) Open ≡ v)
verdict_back Open = (refl, refl)
verdict_back Kept = (refl, refl)
verdict_back Broken = (refl, refl)

pub number_kind : (n : ℕ) → is_some (kind_of n) ≡ true → kind_number (unwrap_or (kind_of n) Always) ≡ n
number_kind n some = grind (arith, nat_tests)

pub number_verdict : (n : ℕ) → is_some (verdict_of n) ≡ true → verdict_number (unwrap_or (verdict_of n) Open) ≡ n
number_verdict n some = grind (arith, nat_tests)
