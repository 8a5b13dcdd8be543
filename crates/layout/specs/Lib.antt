pub mod Layout
pub mod Image
pub mod Ranges
pub mod Laid
pub mod Words
pub mod Lent
pub mod OnImage
