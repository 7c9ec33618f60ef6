-- What a reader must believe of the numbers at the boundary: the answer word, a floor record as numbers; then the claims.
pub mod Word
pub mod Record
pub mod Claims
