pub mod Ends
pub mod Breaking
pub mod Facts
