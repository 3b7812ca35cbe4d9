pub mod Rewrites
pub mod Spaces
