pub mod Known
pub mod WhereReached
pub mod Tables
pub mod Enabling
pub mod Rows
pub mod Leading
pub mod Together
pub mod Passing
