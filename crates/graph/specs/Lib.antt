pub mod Bytes
pub mod Faults
pub mod Graph
pub mod Lassos
pub mod Paths
pub mod Tests
