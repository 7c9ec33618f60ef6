-- Laws of the tests and of the entries' answers, the claims, and cases.
pub mod TestLaws
pub mod EntryLaws
pub mod RecordLaws
pub mod RouteLaws
pub mod FaultLaws
pub mod Theorems
mod Cases
