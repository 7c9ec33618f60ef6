-- `bitrows::has` meets its contract. A digit is tested by a shift and a mask. Assumes nothing.
use Rattle.bitrows.specs.Rows.{has}
use Rattle.bitrows.proofs.DigitLaws.{digit_test}
use Rattle.bitrows.proofs.has.Goals as goal

pub returns : goal.returns
unfolding has
returns c = digit_test _ _
