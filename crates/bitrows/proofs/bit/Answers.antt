-- `bitrows::bit` meets its contract. A shift of 1 by a place below 32 wraps nothing. Assumes nothing.
use Rattle.bitrows.proofs.RowsLaws.{bit_word}
use Rattle.bitrows.proofs.bit.Goals as goal

pub returns : goal.returns
returns c = bit_word _ c.requires
