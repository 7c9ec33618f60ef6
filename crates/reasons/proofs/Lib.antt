-- Laws of what is told of a refusal.
pub mod ToldLaws
