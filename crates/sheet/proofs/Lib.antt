-- Laws that belong to no one function.
pub mod NumberLaws
pub mod FormLaws
pub mod StandingLaws
pub mod RunLaws
pub mod ReadLaws
pub mod WriteLaws
pub mod RoundTrips
pub mod Promises
pub mod WorkedExamples
