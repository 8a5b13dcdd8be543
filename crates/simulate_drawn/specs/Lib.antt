pub mod SimulateDrawn
pub mod SimulateDrawnExactly
pub mod DrawnRounds
