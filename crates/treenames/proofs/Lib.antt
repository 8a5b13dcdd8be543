pub mod Passing
pub mod NameLaws
pub mod TreeLaws
