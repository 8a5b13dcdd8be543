pub mod ReadDetermined
pub mod Raise
pub mod LaidHolds
pub mod LaidWord
pub mod SetsLaws
pub mod LaidRow
pub mod LaidComp
pub mod TakenIn
