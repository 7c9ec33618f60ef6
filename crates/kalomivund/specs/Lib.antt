-- What a reader must believe of the exported functions: what each answer says as a word, then the word and the lent memory of each; then
-- the claims.
pub mod Answers
pub mod Told
pub mod Entries
pub mod Claims
