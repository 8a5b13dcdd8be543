pub mod RowLaws
pub mod ModuleLaws
pub mod KindLaws
