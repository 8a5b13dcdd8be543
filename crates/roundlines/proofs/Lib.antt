pub mod Digits
pub mod RoundLaws
