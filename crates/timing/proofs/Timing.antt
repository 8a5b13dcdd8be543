-- The timed step takes a row of the product.
pub mod Enabling
pub mod Values
pub mod Least
pub mod Ticks
pub mod Fire
pub mod Shots
pub mod Exactly
pub mod Answered
