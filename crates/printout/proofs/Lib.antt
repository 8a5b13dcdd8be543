pub mod Printing
pub mod Leaving
