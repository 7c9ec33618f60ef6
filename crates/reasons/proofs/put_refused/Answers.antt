-- `reasons::put_refused` meets its contract: the reason stands behind the position.
use Rattle.positions.proofs.PositionLaws.{position_low}
use Rattle.reasons.proofs.ToldLaws.{begins_put}
use native.Mathlib.Omega.{arith}
use Rattle.reasons.proofs.put_refused.Goals as goal

pub put_bytes-requires : goal.put_bytes-requires
put_bytes-requires c =
    let low = position_low _ _ _ _ _ c.put_position-at.ensures in
    omega (arith, c.requires.2, low, c.put_reason-n.ensures)

pub returns : goal.returns
returns c =
    let placed = c.put_position-at.ensures in
    let low = position_low _ _ _ _ _ placed in
    rw (← c.number-number.ensures, ← c.line_of-line.ensures.0, ← c.column_of-column.ensures.0)
    (begins_put _ _ _ _ _ _ _ placed c.put_bytes.ensures (omega (arith, c.requires.2)))
