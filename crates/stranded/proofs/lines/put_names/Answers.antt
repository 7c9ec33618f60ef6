-- `stranded::lines::put_names` meets its contract: the carriers passed stand behind the column.
use native.Mathlib.Omega.{arith}
use Rattle.reporting.proofs.LinesLaws.{lines_start, lines_low, lines_keep, lines_more, lines_end}
use Rattle.stranded.proofs.LineLaws.{name_short}
use borrow.Author.Rules.{rules}
use Rattle.stranded.proofs.lines.put_names.Goals as goal

pub loop-j-init : goal.loop-j-init
loop-j-init c =
    (search rules, lines_start _ 2 (name_short c.args.set) _ _)

pub put_name-end-requires : goal.put_name-end-requires
put_name-end-requires c =
    let e = c.loop-j.invariant.1 in
    let long = lines_keep _ 2 (name_short c.args.set) _ _ _ _ _ e (omega (arith, c.requires)) in
    (c.loop-j-test.true, omega (arith, long, c.requires, lines_low _ 2 (name_short c.args.set) _ _ _ _ _ e))

pub loop-j-preserved : goal.loop-j-preserved
loop-j-preserved c = (
  omega (arith, c.loop-j-test.true),
  lines_more _ 2 (name_short c.args.set) _ _ _ _ _ c.loop-j.invariant.1 _ _ c.put_name-end.ensures
      (omega (arith, c.requires, c.loop-j-test.true)),
)

pub shape_of-out : goal.shape_of-out
shape_of-out c =
    lines_keep _ 2 (name_short c.args.set) _ _ _ _ _ c.loop-j.invariant.1 (omega (arith, c.requires, c.loop-j.invariant.0))

pub returns : goal.returns
returns c =
    lines_end _ 2 (name_short c.args.set) _ _ _ _ _ c.loop-j.invariant.1 8 c.loop-j.invariant.0 c.loop-j-test.false
