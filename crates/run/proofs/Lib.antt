pub mod Answers
pub mod Ready
pub mod StepCalls
pub mod SettleCalls
pub mod Determined
pub mod Exactly
pub mod Demand3
