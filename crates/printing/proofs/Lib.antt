-- Laws of the definitions that no single function owns.
pub mod FieldsLaws
pub mod PutLaws
pub mod RecordLaws
pub mod PrintLaws
pub mod LinesLaws
pub mod Theorems
