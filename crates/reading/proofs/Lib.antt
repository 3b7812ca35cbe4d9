pub mod Complements
