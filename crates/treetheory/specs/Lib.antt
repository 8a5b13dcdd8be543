pub mod TreeOrder
pub mod AsDrawn
