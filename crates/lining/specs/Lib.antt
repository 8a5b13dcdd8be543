pub mod Settled
pub mod Went
