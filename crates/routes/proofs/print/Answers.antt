-- `routes::print` meets its contract: its array is never too short.
use Rattle.routes.proofs.PrintedLaws.{counted}
use native.Mathlib.Omega.{arith}
use Rattle.routes.proofs.print.Goals as goal

pub returns : goal.returns
returns c =
    let both = counted _ _ _ _ (omega arith) c.routes.ensures.says c.routes.ensures.stores _ c.unwrap_or.ensures in
    record { counts = both.0; prints = both.1 }
