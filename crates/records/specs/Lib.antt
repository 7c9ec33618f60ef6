-- The record of an answer, a view or a message, and rows of records in a memory; what a view occupies.
pub mod Records
pub mod Seen
