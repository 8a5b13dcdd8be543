pub mod Passing
pub mod Refusing
pub mod Paths
pub mod Every
pub mod Witness
