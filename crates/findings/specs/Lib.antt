pub mod Entries
pub mod Flags
pub mod Surveys
pub mod Tellings
pub mod Peelings
pub mod Joinings
pub mod Ranks
