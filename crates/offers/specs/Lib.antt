pub mod Lines
pub mod Ways
pub mod Passes
pub mod Steps
pub mod Placing
pub mod Electing
pub mod Scratch
