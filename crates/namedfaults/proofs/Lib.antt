pub mod LowestNamed
pub mod FirstNamed
pub mod WrongNamed
pub mod Carried
pub mod Lines
