-- What a reader must believe of the sheet: the text of a floor, the form of a text, and what is read from it.
pub mod Text
pub mod Form
pub mod Values
pub mod Read
pub mod Refused
pub mod Claims
