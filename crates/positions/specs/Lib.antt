-- What a reader must believe of the position of a refusal in a sheet's text.
pub mod Position
pub mod Inner
