pub mod LaidLaws
pub mod PrintLaws
