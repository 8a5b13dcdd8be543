pub mod Draw
pub mod Examples
