pub mod Merging
pub mod MergedTable
pub mod MergeExactly
