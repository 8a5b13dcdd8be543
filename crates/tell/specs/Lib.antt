pub mod Tell
