pub mod WalkLaws
pub mod Runs
pub mod TurnsOfPair
pub mod PairStep
pub mod NextAction
pub mod ByNumber
pub mod FewRows
