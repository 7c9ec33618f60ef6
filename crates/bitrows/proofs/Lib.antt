-- Laws of digits, of rows and of a step. What other crates cite is `pub`.
pub mod DigitLaws
pub mod FillLaws
pub mod RowsLaws
pub mod ScaleLaws
pub mod StepLaws
