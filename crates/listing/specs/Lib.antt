-- In reading order: the runs, what makes one complete and which of two is the earlier, the claims.
pub mod Runs
pub mod Order
pub mod Claims
