pub mod States
pub mod Settling
