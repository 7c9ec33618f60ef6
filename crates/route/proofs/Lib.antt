-- Laws of the definitions, the theory of ways over any rule, and the claims. What other crates cite is `pub`.
pub mod NearLaws
pub mod MovesLaws
pub mod ArrivalLaws
mod FollowLaws
pub mod ConflictLaws
pub mod SpacedLaws
pub mod Ways
mod CheapestLaws
mod EndedLaws
mod ValLaws
mod WalkLaws
mod FirstLaws
pub mod AdmissibleLaws
pub mod Leads
mod WalkRoute
pub mod Meets
pub mod Unique
pub mod FreeLaws
pub mod DocksLaws
mod OneGoalLaws
pub mod Theorems
pub mod Sets
pub mod SetsLaws
pub mod SetsBest
mod LoopLaws
mod Cases
mod ConflictCases
