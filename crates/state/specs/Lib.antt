-- What the helpers of the checks find out; the definitions that these functions are proved against are those of `encoding`.
pub mod Numbers
