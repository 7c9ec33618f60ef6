-- What a reader must believe of a printed report: the words that several texts share, its text; then what only contracts cite.
pub mod Words
pub mod Text
pub mod Put
