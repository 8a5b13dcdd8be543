pub mod SampleLaws
pub mod LineLaws
pub mod TextLaws
