pub mod MemberLaws
pub mod OutLaws
pub mod CaseLaws
pub mod ValueColumn
