-- Laws of the form of a field, of stores one behind the other, of columns, and of the loops over the reader.
pub mod WrittenLaws
pub mod FiveColumns
pub mod StoreLaws
pub mod ReachedLaws
pub mod CountLaws
pub mod ReaderLaws
pub mod ColumnLaws
