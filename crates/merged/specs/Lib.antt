pub mod Merge
pub mod MergedExactly
pub mod MergedAs
