pub mod Admit
pub mod Together
pub mod AdmitExactly
