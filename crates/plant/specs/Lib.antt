pub mod ReadTreeCall
pub mod TreeExactly
