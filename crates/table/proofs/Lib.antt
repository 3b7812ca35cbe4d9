pub mod FirstFaults
pub mod Questions
