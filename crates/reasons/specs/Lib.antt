-- What a reader must believe of a reason: that it begins with the position of the refusal.
pub mod Told
