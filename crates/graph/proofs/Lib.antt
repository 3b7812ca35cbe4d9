pub mod Faulty
pub mod Tame
pub mod Tests
