-- `bitrows::put_rows` meets its contract: what is copied is written. Assumes nothing.
use native.Mathlib.Omega.{arith}
use Rattle.bitrows.proofs.FillLaws.{written_copied}
use Rattle.bitrows.proofs.put_rows.Goals as goal

pub returns : goal.returns
returns c =
    written_copied _ _ _ _ _ _ c.requires.1 c.requires.0 (omega arith) c.copy_from_slice.ensures.after
