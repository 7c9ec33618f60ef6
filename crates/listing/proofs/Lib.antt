-- Laws of lists of runs, of the complete runs and their order, and the claims.
pub mod ListLaws
pub mod RunLaws
pub mod OrderLaws
pub mod Theorems
mod Cases
