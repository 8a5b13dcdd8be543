pub mod Named
pub mod Stated
