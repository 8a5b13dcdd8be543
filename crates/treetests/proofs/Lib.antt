pub mod InputLaws
pub mod GatherLaws
pub mod ConditionLaws
pub mod CycleLaws
pub mod PassLaws
