-- Laws that the functions' proofs cite.
pub mod GeneratorLaws
pub mod StepLaws
pub mod OrderLaws
pub mod CountLaws
pub mod ShownLaws
pub mod ReportLaws
pub mod PlayLaws
pub mod EntryLaws
pub mod Theorems
mod Cases
