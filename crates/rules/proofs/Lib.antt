pub mod RulesSoFar
pub mod Targets
