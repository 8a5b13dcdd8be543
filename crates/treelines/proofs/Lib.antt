pub mod SortLaws
pub mod InputLaws
pub mod ElementLaws
