-- `lister::lines::write_trail` meets its contract: what is copied is stored.
use Rattle.records.proofs.LoadLaws.{stored_is}
use native.Mathlib.Omega.{arith}
use lib.Seq.{length-take-le}
use Rattle.lister.proofs.lines.write_trail.Goals as goal

pub returns : goal.returns
returns c =
    stored_is _ _ _ _ _ (omega (arith, length-take-le c.args.k c.args.trail.now c.requires.0)) c.copy_from_slice.ensures.after
