pub mod PlantLaws
pub mod FirstWords
pub mod LineWalks
