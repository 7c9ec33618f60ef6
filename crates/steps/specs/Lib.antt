-- What the code's enums say in document 01's terms, and what the inner functions need.
pub mod Answers
pub mod Inner
