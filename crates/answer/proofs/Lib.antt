pub mod ToldFixes
pub mod SaysFixes
pub mod StateLaws
