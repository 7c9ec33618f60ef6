-- `maps::rows::put_grid` meets its contract: the rows passed stand behind the column.
use Rattle.reporting.proofs.LinesLaws.{lines_start, lines_low, lines_keep, lines_more, lines_end}
use Rattle.maps.specs.Text.{row_of, grid_of}
use Rattle.maps.proofs.MapLaws.{row_short, row_cells}
use native.Mathlib.Omega.{arith}
use borrow.Author.Rules.{rules}
use Rattle.maps.proofs.rows.put_grid.Goals as goal

pub loop-row-init : goal.loop-row-init
loop-row-init c =
    let short = row_short c.args.marks.now c.args.w c.requires.0 in
    (search rules, lines_start _ 33 short _ _)

pub overflow_mul-row : goal.overflow_mul-row
overflow_mul-row c =
    omega (arith, row_cells c.loop-row.row _ _ c.requires.0 c.requires.1 c.loop-row-test.true)

pub put_row-end-requires : goal.put_row-end-requires
put_row-end-requires c =
    let short = row_short c.args.marks.now c.args.w c.requires.0 in
    let e = c.loop-row.invariant.1 in
    let long = lines_keep _ 33 short _ _ _ _ _ e (omega (arith, c.requires.1, c.requires.3, c.loop-row-test.true)) in (
      c.requires.0,
      omega (arith, c.requires.2, row_cells c.loop-row.row _ _ c.requires.0 c.requires.1 c.loop-row-test.true),
      omega (arith, long, c.requires.1, c.requires.3, c.loop-row-test.true, lines_low _ 33 short _ _ _ _ _ e),
    )

pub loop-row-preserved : goal.loop-row-preserved
unfolding row_of
loop-row-preserved c =
    let short = row_short c.args.marks.now c.args.w c.requires.0 in (
      omega (arith, c.loop-row-test.true),
      lines_more _ 33 short _ _ _ _ _ c.loop-row.invariant.1 _ _ c.put_row-end.ensures
          (omega (arith, c.requires.1, c.requires.3, c.loop-row-test.true)),
    )

pub shape_of-out : goal.shape_of-out
shape_of-out c =
    let short = row_short c.args.marks.now c.args.w c.requires.0 in
    lines_keep _ 33 short _ _ _ _ _ c.loop-row.invariant.1 (omega (arith, c.requires.1, c.requires.3, c.loop-row.invariant.0))

pub returns : goal.returns
unfolding grid_of
returns c =
    let short = row_short c.args.marks.now c.args.w c.requires.0 in
    lines_end _ 33 short _ _ _ _ _ c.loop-row.invariant.1 _ c.loop-row.invariant.0 c.loop-row-test.false
