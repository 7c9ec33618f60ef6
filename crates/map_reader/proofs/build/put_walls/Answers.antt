-- `map_reader::build::put_walls` meets its contract: the walls among the cells passed stand in front.
use borrow.Author.Tests.{eq-eqb, ne_eqb}
use Rattle.map_reader.specs.Marks.{is_wall}
use Rattle.map_reader.proofs.WhereLaws.{list_start, list_low, list_keep, list_there, list_away, list_end}
use native.Mathlib.Omega.{arith}
use borrow.Author.Rules.{rules}
use Rattle.map_reader.proofs.build.put_walls.Goals as goal
use Rattle.map_reader.proofs.build.put_walls.Goals.{then-marks-c-eq35, else-marks-c-eq35}

pub loop-c-init : goal.loop-c-init
loop-c-init c =
    (search rules, list_start (is_wall c.args.marks.now) _)

pub offset_bounds-walls-found : goal.offset_bounds-walls-found
offset_bounds-walls-found c =
    let e = c.loop-c.invariant.1 in
    omega (arith, list_low _ _ _ _ _ e, c.loop-c-test.true, c.requires.0)

pub bounds-walls-found : goal.bounds-walls-found
bounds-walls-found c =
    let e = c.loop-c.invariant.1 in
    omega (
      arith,
      list_low _ _ _ _ _ e,
      list_keep _ _ _ _ _ e (omega (arith, c.loop-c-test.true, c.requires.1)),
      c.loop-c-test.true,
      c.requires.1,
    )

pub overflow_add-found : goal.overflow_add-found
overflow_add-found c =
    let e = c.loop-c.invariant.1 in
    omega (arith, list_low _ _ _ _ _ e, c.loop-c-test.true, c.requires.0)

pub loop-c-preserved : goal.loop-c-preserved
unfolding is_wall
loop-c-preserved c =
    let e = c.loop-c.invariant.1 in
    let less = c.loop-c-test.true in
    elim c.if-marks-c-eq35.branch [
      | then-marks-c-eq35 w ↦
          (omega arith, list_there _ _ _ _ _ e _ _ (eq-eqb _ 35 w.if-marks-c-eq35.true) w.walls-is w.found-is (omega (arith, c.requires.1)))
      | else-marks-c-eq35 w ↦
          (omega arith, list_away _ _ _ _ _ e _ _ (ne_eqb _ 35 w.if-marks-c-eq35.false) w.walls-is w.found-is (omega (arith, c.requires.1)))
    ]

pub shape_of-walls : goal.shape_of-walls
shape_of-walls c =
    let e = c.loop-c.invariant.1 in
    list_keep _ _ _ _ _ e (omega (arith, c.loop-c.invariant.0, c.requires.1))

pub returns : goal.returns
returns c =
    let e = c.loop-c.invariant.1 in
    (list_end _ _ _ _ _ e _ c.loop-c.invariant.0 c.loop-c-test.false, omega (arith, list_low _ _ _ _ _ e, c.loop-c.invariant.0))
