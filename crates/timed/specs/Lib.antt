pub mod TimedStep
pub mod TimedStepExactly
