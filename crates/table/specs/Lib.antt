pub mod Rows
pub mod IsImage
pub mod OnTable
pub mod RecogniseExactly
