-- `picture::print` meets its contract: what was put is counted.
use Rattle.printing.proofs.PrintLaws.{place_small}
use native.Mathlib.Omega.{arith}
use Rattle.picture.proofs.print.Goals as goal

pub put_refusal-n-requires : goal.put_refusal-n-requires
put_refusal-n-requires c =
    (place_small _ _ c.no_walls-walls.ensures c.read.ensures.answers c.in-Err.is, omega arith)
