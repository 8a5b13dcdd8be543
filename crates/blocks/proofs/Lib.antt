pub mod BlockFacts
pub mod CodeTests
