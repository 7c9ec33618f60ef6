-- In reading order: where each part of a state lies, a state as numbers and back, which memories are states, a step as a number, the
-- checks of a call, its answer and the memory after it, what is claimed; then what steps and runs do number by number.
pub mod Places
pub mod Encode
pub mod Decode
pub mod Valid
pub mod Ranges
pub mod Alike
pub mod Numbers
pub mod Calls
pub mod Claims
pub mod InnerSteps
pub mod InnerRuns
pub mod InnerCalls
