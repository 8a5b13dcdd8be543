pub mod Rows
pub mod KindSets
