-- What a reader must believe of the needed lengths.
pub mod Figures
pub mod Claims
