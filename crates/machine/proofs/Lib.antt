-- Laws that the functions' proofs cite.
pub mod RunLaws
pub mod Figures
pub mod CeilingLaws
pub mod VerdictLaws
pub mod EntryLaws
