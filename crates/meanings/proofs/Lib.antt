pub mod Firsts
pub mod TableSound
pub mod RulesSound
pub mod ReadingSound
