-- Definition 4.1 and Proposition 4.1 of document 000.
pub mod Definition41
pub mod Proposition41
