-- What a reader must believe of the printed routes: the text, the path from bytes to bytes; then what only inner contracts cite.
pub mod Text
pub mod Print
pub mod Put
pub mod Claims
