-- `maps::rows::put_row` meets its contract: the marks, and a newline behind them.
use Prim.Native.Nat.{◌+◌, ◌-◌}
use Rattle.maps.proofs.MapLaws.{row_put}
use native.Mathlib.Omega.{arith}
use Rattle.maps.proofs.rows.put_row.Goals as goal

pub returns : goal.returns
returns c =
    let b = c.args.base in
    let w = c.args.w in
    row_put _ b w (b + w - b) _ _ _ _ _ _ c.put_bytes-end.ensures (omega arith) c.put_bytes.ensures c.requires.0 c.requires.2
