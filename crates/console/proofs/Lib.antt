-- Laws of the console's definitions.
pub mod PartsLaws
pub mod RunLaws
pub mod TurnLaws
pub mod WithinLaws
