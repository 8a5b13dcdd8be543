pub mod TreeLaws
pub mod Determined
pub mod Exactly
