-- In reading order: the task of a search, its answers and refusals; what is made once a floor, what the inner functions hand back; the
-- claims.
pub mod Task
pub mod Answers
pub mod Search
pub mod Rows
pub mod Seek
pub mod Refused
pub mod Claims
