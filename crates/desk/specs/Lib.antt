-- What a reader must believe of the desk: the text of a trial; numbers given as arguments.
pub mod Text
pub mod Arguments
