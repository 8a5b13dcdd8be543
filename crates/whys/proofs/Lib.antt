pub mod Walking
pub mod Reaching
pub mod Orders
pub mod Explained
