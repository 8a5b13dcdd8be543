pub mod PartLaws
pub mod Walks
pub mod Orders
pub mod Most
