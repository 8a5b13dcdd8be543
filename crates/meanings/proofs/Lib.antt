pub mod FirstLine
pub mod WordLaws
pub mod Gathering
