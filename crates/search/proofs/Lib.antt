-- Laws of the definitions, of the loops, and the claims. What other crates cite is `pub`.
pub mod SeekLaws
pub mod SearchLaws
pub mod GroundLaws
pub mod RowsFree
pub mod RequestLaws
pub mod SeenLaws
pub mod Theorems
mod Cases
