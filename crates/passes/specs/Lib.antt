-- In reading order: the docks, the passes over a table, the walk along its sets.
pub mod Docks
pub mod Passes
pub mod Walk
