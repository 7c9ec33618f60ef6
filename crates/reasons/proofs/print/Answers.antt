-- `reasons::print` meets its contract: the reader's answer decides between the floor's size and the refusal.
use Rattle.printing.proofs.PrintLaws.{was_read, was_refused, place_small}
use Rattle.reasons.proofs.ToldLaws.{one_refusal, no_refusal}
use native.Mathlib.Omega.{arith}
use Rattle.reasons.proofs.print.Goals as goal

pub returns-in-Ok-clause-places : goal.returns-in-Ok-clause-places
returns-in-Ok-clause-places c =
    let r = c.read.ensures in
    no_refusal _ _ _ (was_read _ _ _ _ c.no_walls-walls.ensures (r.answers, (r.returns, r.stores)) c.in-Ok.is).accepted

pub put_text-requires : goal.put_text-requires
put_text-requires c =
    (place_small _ _ c.no_walls-walls.ensures c.read.ensures.answers c.in-Err.is, omega arith)

pub returns-in-Err-clause-places : goal.returns-in-Err-clause-places
returns-in-Err-clause-places c =
    one_refusal _ _ _ _ _ (was_refused _ _ c.no_walls-walls.ensures c.read.ensures.answers c.in-Err.is) c.put_text.ensures
