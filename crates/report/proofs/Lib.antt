pub mod WorkedExamples
pub mod PrintLaws
pub mod PageLaws
pub mod WorkLaws
pub mod InputLaws
pub mod ReportLaws
pub mod Promises
