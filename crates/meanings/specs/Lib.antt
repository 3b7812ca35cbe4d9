pub mod Fields
pub mod Table
pub mod RuleList
pub mod Reading
