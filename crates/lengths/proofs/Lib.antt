-- The lengths of a report and of a sheet, and the claims, proved.
mod ReportLaws
mod SheetLaws
pub mod Theorems
