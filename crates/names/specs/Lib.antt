pub mod Names
pub mod NamesExactly
pub mod NumbersExactly
