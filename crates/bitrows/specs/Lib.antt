-- In reading order: the digits of a word, rows of words, one step of a set.
pub mod Words
pub mod Rows
