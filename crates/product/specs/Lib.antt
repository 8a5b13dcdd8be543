pub mod Walk
pub mod Turns
pub mod Cuts
pub mod Walking
