pub mod Offsets
pub mod Tests
