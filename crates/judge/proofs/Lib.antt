pub mod KeyLaws
pub mod SummaryLaws
pub mod StepIs
