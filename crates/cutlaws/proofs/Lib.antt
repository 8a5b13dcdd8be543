pub mod CutLaws
pub mod LineCuts
pub mod Copies
