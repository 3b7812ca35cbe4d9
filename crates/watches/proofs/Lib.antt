pub mod Settle
pub mod Watching
pub mod Simple
pub mod Marked
pub mod Laws
mod AlwaysCalm
