-- What a reader must believe of the map of a floor; then what the inner functions are proved against.
pub mod Text
pub mod Map
pub mod Inner
pub mod Claims
