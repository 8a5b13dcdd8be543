pub mod NamedText
pub mod ReadNamed
pub mod Converted
