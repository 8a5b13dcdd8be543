pub mod Kept
pub mod Called
pub mod Lengths
pub mod Determined
pub mod AsStep
pub mod Exactly
