pub mod CallsAlike
