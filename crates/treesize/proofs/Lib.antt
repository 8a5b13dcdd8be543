pub mod SizeLaws
pub mod FitLaws
