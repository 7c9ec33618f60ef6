-- In reading order: the calls on the program's side and on the reference machine's, and the claims; trials; listed runs; who
-- shuts a carrier in; several docks; then document 01's cases.
pub mod Lists
pub mod Rows
pub mod Demand1
pub mod Demand2
pub mod Demand3
pub mod Trials
pub mod Shorter
pub mod Boards
pub mod Runs
pub mod Blockers
pub mod Docks
pub mod Floors
pub mod Texts
pub mod Cases
