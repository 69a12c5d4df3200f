-- Laws that belong to no one function.
pub mod Numbers
pub mod InsertLaws
pub mod PlaceLaws
pub mod PrefixLaws
pub mod ListedLaws
pub mod SlotLaws
pub mod MetLaws
pub mod GatherLaws
pub mod OrderLaws
pub mod AsTableLaws
pub mod PairTableLaws
pub mod StepLaws
pub mod CheckLaws
