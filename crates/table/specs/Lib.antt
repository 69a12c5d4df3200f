pub mod Entries
pub mod Guess
pub mod GuessSteps
pub mod Phases
pub mod PhaseSteps
pub mod Steps
