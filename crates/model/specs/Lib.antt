pub mod Model
pub mod Text
pub mod WellFormed
pub mod Reading
pub mod Line
pub mod Column
pub mod Faulty
