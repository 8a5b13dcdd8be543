pub mod Triggering
pub mod Test
