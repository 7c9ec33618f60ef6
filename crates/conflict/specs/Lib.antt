-- What a reader must believe of the conflict test as an entry.
pub mod Entry
