-- Laws of a drawn floor, and drawings computed from the definitions.
pub mod DrawingLaws
pub mod DrawnLaws
mod Cases
