pub mod Numbers
pub mod Packs
pub mod Writes
pub mod Accepts
pub mod Backs
pub mod Only
pub mod Same
