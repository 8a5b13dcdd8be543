pub mod Report
pub mod Examples
pub mod LooksRight
pub mod Answers
pub mod Printed
