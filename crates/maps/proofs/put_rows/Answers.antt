-- `maps::put_rows` meets its contract: the marks of all cells, row by row.
use mathlib.Core.Path.{◌∙◌}
use Rattle.floor.proofs.LimitsLaws.{check_tells}
use Rattle.maps.specs.Map.{map_rows, map_mark}
use Rattle.maps.proofs.LinesLaws.{whole_put}
use Rattle.maps.proofs.MapLaws.{markable, marks_length}
use native.Mathlib.Omega.{arith}
use Rattle.maps.proofs.put_rows.Goals as goal

pub put_cells-requires : goal.put_cells-requires
put_cells-requires c =
    let t = check_tells _ _ c.requires.0 in
    (markable _ _ c.requires.0, t.lent, omega (arith, c.no_marks-cells.ensures))

pub put_grid-requires : goal.put_grid-requires
put_grid-requires c =
    let b = (check_tells _ _ c.requires.0).bounds in
    (b.width.1, b.height.1, omega (arith, c.no_marks-cells.ensures, c.put_cells.auto), c.requires.1)

pub returns : goal.returns
unfolding map_rows
returns c =
    let marks = map_mark c.args.f c.args.walls.now in
    rw (← whole_put c.put_cells.ensures (marks_length marks 1024 ∙ c.no_marks-cells.ensures))
    c.put_grid.ensures
