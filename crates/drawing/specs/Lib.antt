-- What a reader must believe of a drawn floor.
pub mod Drawing
