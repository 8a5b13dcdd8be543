pub mod FoundLaws
pub mod Ready
