pub mod NumberLaws
pub mod DrawLaws
