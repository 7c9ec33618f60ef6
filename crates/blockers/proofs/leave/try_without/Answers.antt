-- `blockers::leave::try_without` meets its contract: the record stays out if none was found, and is put back otherwise.
use native.Mathlib.Omega.{arith}
use mathlib.Core.Path.{sym, ◌∙◌}
use Rattle.blockers.proofs.RecordLaws.{stays_out, put_back}
use Rattle.blockers.proofs.leave.try_without.Goals as goal

pub returns-then-is_some : goal.returns-then-is_some
returns-then-is_some c =
    let p = c.requires in
    put_back _ _ _ _ _ p.0 (omega (arith, p.1.lent)) c.best_route.result c.best_route.ensures
    (sym c.is_some.ensures ∙ c.if-is_some.true)

pub returns-else-is_some : goal.returns-else-is_some
returns-else-is_some c =
    let p = c.requires in
    stays_out _ _ _ _ _ p.0 (omega (arith, p.1.lent)) c.best_route.result c.best_route.ensures
    (sym c.is_some.ensures ∙ c.if-is_some.false)
