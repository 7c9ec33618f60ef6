-- Laws of the definitions and of the loops. What other crates cite is `pub`.
pub mod GridLaws
pub mod WordLaws
pub mod SetLaws
pub mod PlaceLaws
pub mod RewriteLaws
pub mod StripesLaws
pub mod AloneLaws
pub mod MemberLaws
pub mod BroughtLaws
pub mod StepLaws
pub mod SweptLaws
pub mod FreeLaws
pub mod TakenLaws
pub mod FreeTableLaws
