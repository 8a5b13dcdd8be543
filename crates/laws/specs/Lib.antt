pub mod Sets
pub mod Search
pub mod Fold
pub mod Tests
pub mod Lowest
