pub mod Report
pub mod Worked
pub mod Printing
pub mod Pages
pub mod Answers
pub mod Entries
