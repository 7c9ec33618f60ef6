-- In reading order: the report as numbers, what the entry answers and stores, what is claimed; then what the inner functions are
-- proved against.
pub mod Report
pub mod Entry
pub mod Claims
pub mod Inner
