-- `stranded::put_stranded` meets its contract: the lines, and behind them the drawing in the rest of the memory.
use Prim.Native.Nat.{◌≤◌}
use mathlib.Core.Path.{refl}
use native.Mathlib.Omega.{arith}
use lib.ListN.{length-take, length-drop}
use Rattle.floor.proofs.LimitsLaws.{check_tells}
use Rattle.drawing.proofs.DrawnLaws.{drawn_low}
use Rattle.stranded.proofs.StrandedLaws.{lines_low, stranded_put}
use Rattle.stranded.proofs.put_stranded.Goals as goal
use Rattle.stranded.proofs.put_stranded.Goals.{After-put_floor, After-put_lines-n}

-- The lines end by column 360.
low : (after-put-lines : After-put_lines-n) → after-put-lines.put_lines-n.result ≤ 360
low after-put-lines =
    lines_low _ _ after-put-lines.requires.0 _ _ _ after-put-lines.put_lines-n.ensures

-- The sum of both lengths fits.
sum : (after-put-floor : After-put_floor) → after-put-floor.put_floor.result ≤ 1056
sum after-put-floor =
    omega (arith, after-put-floor.put_floor.ensures.size, (drawn_low _ _ after-put-floor.requires.0).3)

pub places-requires : goal.places-requires
places-requires c =
    ((check_tells _ _ c.requires.0).bounds.carriers.1, c.plan_own-own.ensures.long)

pub slice_bounds-put_floor-count : goal.slice_bounds-put_floor-count
slice_bounds-put_floor-count c = omega (arith, low (goal.at.slice_bounds-put_floor-count c).After-put_lines-n)

pub slice_bounds-put_floor-start : goal.slice_bounds-put_floor-start
slice_bounds-put_floor-start c = omega (arith, low (goal.at.slice_bounds-put_floor-start c).After-put_lines-n)

pub put_floor-requires : goal.put_floor-requires
put_floor-requires c =
    let d = drawn_low _ _ c.requires.0 in
    (d.0, d.1, d.2, simp (length-take, length-drop) (omega (arith, d.3, c.requires.1, low (goal.at.put_floor-requires c).After-put_lines-n)))

pub overflow_add-result : goal.overflow_add-result
overflow_add-result c = omega (arith, low (goal.at.overflow_add-result c).After-put_lines-n, sum (goal.at.overflow_add-result c).After-put_floor)

pub returns : goal.returns
returns c =
    let drawn = c.put_floor.ensures in
    stranded_put _ _ c.requires.0 _ _ _ _ _ _ _ _ c.plan_own-own.ensures c.put_lines-n.ensures
    c.places.ensures drawn.puts drawn.size refl c.requires.1
