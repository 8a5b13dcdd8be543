pub mod Unit
pub mod Signs
pub mod Ends
pub mod Ticks
pub mod Cases
pub mod Examples
