pub mod ScanLaws
pub mod FieldLaws
pub mod NumberLaws
pub mod Gather
pub mod ResetLaws
