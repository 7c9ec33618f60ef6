-- In reading order: the tests of a record, what the entries answer, when a record is none of a carrier's, the claims; then what the inner
-- functions are proved against.
pub mod Tests
pub mod Entry
pub mod Answers
pub mod Faults
pub mod Claims
pub mod Inner
