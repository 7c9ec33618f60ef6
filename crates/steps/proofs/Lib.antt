-- Laws that the functions' proofs cite.
pub mod OpenLaws
pub mod PlacedLaws
pub mod ViewLaws
pub mod TakeLaws
