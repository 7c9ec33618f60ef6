-- What a reader must believe of a map that was read: what its cells are, and the floor; then what the inner functions are proved against.
pub mod Marks
pub mod Told
pub mod Inner
