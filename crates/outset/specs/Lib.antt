pub mod Start
pub mod StartExactly
