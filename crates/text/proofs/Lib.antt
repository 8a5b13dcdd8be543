pub mod ReadLaws
pub mod WriteLaws
pub mod WriteDetermined
pub mod ReadBack
pub mod RoundTrip
pub mod Filling
pub mod Exactly
