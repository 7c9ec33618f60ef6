-- What a reader must believe of the planner: the plan of a floor, and how its answers lie in memory.
pub mod Plan
pub mod Records
pub mod Answers
pub mod Claims
pub mod DocksClaims
