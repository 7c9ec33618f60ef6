-- What the contracts of the console cite.
pub mod Moved
pub mod Turned
pub mod Within
pub mod Told
