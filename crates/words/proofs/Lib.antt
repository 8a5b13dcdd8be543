pub mod Tells
pub mod WordsFix
pub mod Laid
pub mod Filled
pub mod Zeros
