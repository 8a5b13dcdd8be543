-- Merging gives the product.
pub mod Labels
pub mod Rows
pub mod Product
pub mod Ascend
pub mod WellFormed
pub mod Models
pub mod Sizes
pub mod Conforms
pub mod Accepted
pub mod SameSystem
pub mod SameRuns
pub mod Reaching
