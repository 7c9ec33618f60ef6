-- What a reader must believe of the floor: the verdict of a check, the checks, what the code's answers mean; then the same conditions
-- as statements, and the claims.
pub mod Checks
pub mod Answers
pub mod Fresh
pub mod Accepted
pub mod Refused
pub mod OneDock
pub mod Claims
