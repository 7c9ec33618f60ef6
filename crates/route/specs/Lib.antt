-- In reading order: the nouns, relations, the function `best`, the sequential planner, what the code computes, several docks and one,
-- claims.
pub mod Route
pub mod Conflict
pub mod FirstConflict
pub mod Spaced
pub mod Best
pub mod Moves
pub mod Search
pub mod Sequential
pub mod Arrival
pub mod Docks
pub mod OneGoal
pub mod ConflictTest
pub mod Claims
