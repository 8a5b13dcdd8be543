pub mod Explain
pub mod ExplainExactly
