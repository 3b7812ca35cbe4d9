mod Bitwise
pub mod Decided
