-- Laws of positions.
pub mod PositionLaws
