-- Laws of the definitions that no single function owns.
pub mod FirstLaws
pub mod TableLaws
pub mod PlanLaws
pub mod FailingLaws
pub mod RequestLaws
pub mod ResultLaws
pub mod SequentialLaws
pub mod DependsLaws
pub mod StrandedLaws
pub mod StoredLaws
pub mod Theorems
pub mod DocksTheorems
