pub mod Weave
pub mod Next
pub mod Raised
pub mod Standing
