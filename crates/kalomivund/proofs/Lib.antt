-- Laws that the proofs of the exported functions cite, laws of lent memory, and the claims.
mod EntryLaws
mod SearchLaws
mod LengthsLaws
mod KeepLaws
mod LentLaws
mod CallLaws
mod TrialLaws
mod RankLaws
mod BlockerLaws
mod ShortLaws
pub mod Theorems
