pub mod Write
pub mod TextExactly
