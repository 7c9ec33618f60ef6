-- Laws that speak of no floor: of tests, of lists, of blocks put into a memory and parts of one.
pub mod Tests
pub mod Lists
pub mod CodeTests
pub mod VerdictLaws
pub mod EachLaws
pub mod HoldLaws
pub mod PutLaws
pub mod PartLaws
