pub mod HexLaws
pub mod FormLaws
pub mod LineLaws
pub mod TextLaws
