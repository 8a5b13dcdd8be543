pub mod ConvertLaws
pub mod Determined
pub mod Fitted
pub mod Exactly
pub mod NamesExactly
pub mod NumbersExactly
pub mod RoundTrip
