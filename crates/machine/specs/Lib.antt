-- What the code's enums say in document 01's terms, the machine over rows of free cells, and what the inner functions need.
pub mod Answers
pub mod Inner
pub mod Ceiling
