-- `frames::lines::put_rows` meets its contract: the marks of all cells, row by row.
use borrow.Author.Rules.{rules}
use Rattle.frames.specs.Inner.{Drawable}
use mathlib.Core.Path.{◌∙◌}
use Rattle.floor.proofs.LimitsLaws.{check_tells}
use Rattle.records.specs.Records.{answer_in}
use Rattle.frames.specs.Text.{frame_rows, frame_mark}
use Rattle.maps.proofs.LinesLaws.{whole_put}
use Rattle.maps.proofs.MapLaws.{marks_length}
use native.Mathlib.Omega.{arith}
use Rattle.frames.proofs.lines.put_rows.Goals as goal

pub put_cells-requires : goal.put_cells-requires
put_cells-requires c =
    (c.requires.0, omega (arith, c.no_marks-marks.ensures))

pub put_grid-requires : goal.put_grid-requires
put_grid-requires c =
    let d : Drawable c.args.scene.now.floor c.args.scene.now.walls.now c.args.scene.now.own.now = search rules in
    let b = (check_tells _ _ d.checked).bounds in
    (b.width.1, b.height.1, omega (arith, c.no_marks-marks.ensures, c.put_cells.auto), c.requires.1)

pub returns : goal.returns
unfolding frame_rows
returns c =
    let marks = frame_mark c.args.scene.now.floor c.args.scene.now.walls.now (answer_in c.args.scene.now.own.now) c.args.t in
    rw (← whole_put c.put_cells.ensures (marks_length marks 1024 ∙ c.no_marks-marks.ensures))
    c.put_grid.ensures
