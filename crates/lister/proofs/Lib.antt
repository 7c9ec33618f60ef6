-- Laws that the functions' proofs cite.
pub mod LineLaws
pub mod NodeLaws
pub mod WalkLaws
pub mod SameLaws
pub mod EntryLaws
pub mod Theorems
