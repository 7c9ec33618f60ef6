-- Laws of the word and of a record as numbers, and the claims.
pub mod RecordLaws
pub mod WordLaws
pub mod Theorems
