pub mod Keeps
pub mod Poses
pub mod Ending
pub mod Turning
pub mod Going
