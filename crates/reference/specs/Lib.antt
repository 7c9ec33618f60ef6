-- In reading order: the state, the steps, their ranking and what they do, the run and its history, the calls, quiescent prefixes, steps
-- that stand apart, the claims.
pub mod Ranges
pub mod State
pub mod Step
pub mod Ranking
pub mod Take
pub mod Effects
pub mod Run
pub mod Ending
pub mod History
pub mod Table
pub mod Refused
pub mod Calls
pub mod Quiescent
pub mod Bounds
pub mod Meeting
pub mod StepClaims
pub mod CallClaims
pub mod MeetingClaims
pub mod Claims
