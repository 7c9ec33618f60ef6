-- What a reader must believe of the text of stranded carriers; then what the inner functions are proved against.
pub mod Text
pub mod Inner
