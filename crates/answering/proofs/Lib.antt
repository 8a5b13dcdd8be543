pub mod Answers
pub mod Examples
pub mod Witness
pub mod LooksRight
