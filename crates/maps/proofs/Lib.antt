-- Laws of texts put line by line, of marks and of maps; the claims; marks and lines computed from the definitions.
pub mod LinesLaws
pub mod MarkLaws
pub mod MapLaws
mod Cases
pub mod Theorems
