-- What a reader must believe of a floor drawn beat by beat; then what the inner functions are proved against.
pub mod Text
pub mod Inner
