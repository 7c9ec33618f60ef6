-- Laws of records that the crates above cite, and of the loops over their cells.
pub mod SlotLaws
pub mod RecordLaws
pub mod ViewsLaws
pub mod CellLaws
pub mod PartLaws
pub mod LoadLaws
pub mod SeenLaws
