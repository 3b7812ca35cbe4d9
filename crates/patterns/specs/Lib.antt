pub mod Words
pub mod Kinds
pub mod Chosen
pub use Rattle.watches.specs.Watch
pub use Rattle.watches.specs.Rules
pub use Rattle.watches.specs.Tables
