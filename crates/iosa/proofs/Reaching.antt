-- Where a component can get: computed exactly, and kept by the rows that may be taken.
pub mod ReachExactly
pub mod Refused19
pub mod Keeps
