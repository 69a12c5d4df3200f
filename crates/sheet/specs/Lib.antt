pub mod Form
pub mod Places
pub mod Sizes
pub mod Entries
pub mod Writing
pub mod Worked
