pub mod Found
pub mod Text
