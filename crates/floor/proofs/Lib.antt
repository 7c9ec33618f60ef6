-- Laws of the definitions that no single function owns.
pub mod AnswersLaws
pub mod LimitsLaws
pub mod ReasonLaws
pub mod AmongLaws
pub mod RisesLaws
pub mod SameLaws
pub mod CheckMeans
pub mod DockLaws
pub mod WallSearchLaws
pub mod OrderLaws
pub mod OneDockLaws
pub mod Theorems
