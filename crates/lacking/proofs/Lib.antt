pub mod SameMembers
pub mod RepairedRows
pub mod RepairedModels
pub mod WalkLaws
pub mod LackLaws
pub mod Counts
