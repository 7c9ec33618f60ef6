-- Laws of the ranking's places, of the orders' choices and of trials, and the claims.
pub mod PlaceLaws
pub mod PassingLaws
pub mod RuleLaws
pub mod TrialLaws
pub mod CallLaws
pub mod RoundLaws
pub mod Theorems
mod Cases
