pub mod OrderLaws
pub mod DifferLaws
pub mod DueLaws
pub mod StandLaws
pub mod NetworkLaws
pub mod FitLaws
pub mod Promises
