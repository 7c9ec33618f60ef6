-- Laws of the arguments' numbers, and of a trial's text.
pub mod ArgumentLaws
pub mod PlayedLaws
