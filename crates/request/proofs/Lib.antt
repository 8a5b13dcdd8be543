pub mod LineLaws
pub mod HeldLaws
