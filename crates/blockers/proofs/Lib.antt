-- Laws of the definitions, and the claims proved.
pub mod PartLaws
pub mod SetLaws
pub mod LeftLaws
pub mod RecordLaws
pub mod EntryLaws
pub mod SameLaws
mod Cases
pub mod Theorems
