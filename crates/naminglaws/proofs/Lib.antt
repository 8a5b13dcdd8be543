pub mod LineLaws
pub mod NewText
pub mod SheetLaws
pub mod Walks
