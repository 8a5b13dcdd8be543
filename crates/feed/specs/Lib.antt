pub mod Supply
pub mod Feeding
