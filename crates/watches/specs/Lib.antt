pub mod Watch
pub mod Rules
pub mod Tables
