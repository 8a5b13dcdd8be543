pub mod StepsByOffers
pub mod Along
pub mod RangeAlong
pub mod KeepsRange
pub mod Ready
pub mod OneRow
pub mod LowestOffer
pub mod Lowest
