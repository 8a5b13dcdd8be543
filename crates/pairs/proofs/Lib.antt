pub mod Clashing
