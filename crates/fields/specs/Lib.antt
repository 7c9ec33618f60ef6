-- In reading order: a field, the form of lines of fields, and what a reader answers.
pub mod Field
pub mod Form
pub mod Reached
