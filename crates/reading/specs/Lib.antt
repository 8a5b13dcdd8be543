pub mod Read
pub mod Changes
pub mod Laid
