pub mod Going
pub mod Filling
pub mod Passing
pub mod Rows
