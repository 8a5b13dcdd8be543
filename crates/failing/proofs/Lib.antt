pub mod Line
pub mod Numbers
