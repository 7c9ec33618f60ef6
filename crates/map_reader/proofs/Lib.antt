-- Laws of a map that was read, and cells computed from the definitions.
mod WhereLaws
mod Cases
mod WithinLaws
mod ToldLaws
