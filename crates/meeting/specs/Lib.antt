-- What a reader must believe of a meeting: its printed text.
pub mod Text
