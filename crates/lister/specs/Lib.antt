-- In reading order: lines of runs, what the entry answers and stores, what is claimed; then what the inner functions are proved against.
pub mod Lines
pub mod Entry
pub mod Claims
pub mod Inner
