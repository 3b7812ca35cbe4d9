pub mod Numbers
pub mod Layout
pub mod Places
pub mod Refusals
pub mod Round
