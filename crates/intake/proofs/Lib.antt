pub mod Kept
pub mod LineTaken
pub mod Built
