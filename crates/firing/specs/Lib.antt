pub mod Fired
pub mod Choices
pub mod Shots
