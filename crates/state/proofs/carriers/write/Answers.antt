-- `state::carriers::write` meets its contract: two numbers and a record behind them.
use lib.ListN.{length}
use mathlib.Core.Path.{◌≡◌}
use Rattle.state.proofs.CountLaws.{put_three}
use native.Mathlib.Omega.{arith}
use borrow.Author.Rules.{rules}
use Rattle.state.proofs.carriers.write.Goals as goal
use Rattle.state.proofs.carriers.write.Goals.{Start}

cells-long : (start : Start) → length start.args.cells ≡ 64
cells-long start = search rules

pub returns : goal.returns
returns c =
    let e = cells-long (goal.at.returns c).Start in
    let p = c.planned_place.ensures in
    let d = c.due_place.ensures in
    let a = c.answer_place.ensures in
    rw (← p.0)
    (put_three _ _ _ _ _ _ _ _ c.store.ensures (omega (arith, p, d)) (omega (arith, d, a))
    (omega (arith, a, e, c.requires)))
