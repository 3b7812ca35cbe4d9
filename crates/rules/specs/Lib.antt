pub mod Rests
pub mod RuleArray
pub mod Told
