pub mod Walking
pub mod Tables
pub mod Spreading
