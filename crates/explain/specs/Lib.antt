pub mod Words
pub mod Text
pub mod Failures
