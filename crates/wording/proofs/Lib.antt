-- Laws of numbers in words.
pub mod DecimalLaws
