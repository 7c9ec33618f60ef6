-- What all crates share: the verdict of a check, and blocks and parts of a memory.
pub mod Verdict
pub mod Memory
