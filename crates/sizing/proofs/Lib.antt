pub mod MergedSums
