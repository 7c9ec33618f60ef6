-- Laws of the definitions, the invariant, the potential, and the claims. What other crates cite is `pub`.
pub mod RangeLaws
pub mod OpenLaws
pub mod RankingLaws
pub mod TakeLaws
mod SwapLaws
mod EffectLaws
pub mod TableLaws
mod RefusedLaws
pub mod RunLaws
pub mod RespondLaws
pub mod CutLaws
pub mod ReachLaws
mod CutCalls
mod CountLaws
pub mod QuiescentLaws
mod EndingLaws
pub mod Invariant
pub mod BoundLaws
pub mod ApartLaws
mod ExchangeLaws
pub mod ThroughLaws
mod SequentialLaws
mod PrefixLaws
mod Sums
pub mod Potential
mod PlanWeight
mod DeliverWeight
pub mod CeilingLaws
pub mod Theorems
