pub mod Promises
pub mod Prefix
pub mod Slots
pub mod Tables
pub mod Sorting
pub mod Gathering
