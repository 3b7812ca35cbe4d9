pub mod ArrowCount
