pub mod NameCheck
