-- `desk::arguments::with_digit` meets its contract: numbers above 2^32 are told as that.
use Rattle.desk.proofs.ArgumentLaws.{digit_low}
use native.Mathlib.Omega.{arith}
use Rattle.desk.proofs.arguments.with_digit.Goals as goal

pub overflow_sub-byte : goal.overflow_sub-byte
overflow_sub-byte c =
    omega (arith, digit_low _ c.requires.1)
