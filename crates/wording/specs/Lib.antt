-- What a reader must believe of a number in words, and of a piece of a text.
pub mod Decimal
pub mod Puts
