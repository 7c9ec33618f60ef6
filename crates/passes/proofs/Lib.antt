-- Laws of the definitions and of the loops. What other crates cite is `pub`.
pub mod AnyLaws
pub mod HoldLaws
pub mod EndsLaws
pub mod PassLaws
pub mod NearCells
pub mod NextLaws
mod FilledLaws
