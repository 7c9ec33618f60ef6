-- Laws that the functions' proofs cite.
pub mod PlaceLaws
pub mod EachLaws
pub mod CountLaws
pub mod FreshLaws
pub mod RecordLaws
pub mod NumbersLaws
