pub mod PlaceLaws
pub mod NameTurns
pub mod JudgeLaws
pub mod ColumnLaws
pub mod BodyTurns
pub mod OldLaws
