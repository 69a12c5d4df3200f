pub mod PlaceLaws
pub mod OrderLaws
pub mod ReadLaws
pub mod LoadedLaws
pub mod TableLaws
pub mod SheetLaws
pub mod ReplyLaws
pub mod Unpacked
