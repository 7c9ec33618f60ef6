-- In reading order: the procedure, what the entry answers and stores, what is claimed; then what the inner functions are proved against.
pub mod Blockers
pub mod Entry
pub mod Claims
pub mod Inner
