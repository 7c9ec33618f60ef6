-- `map_reader::build::Cells::count` meets its contract: the cells passed that are the thing are counted.
use Rattle.map_reader.specs.Marks.{is_thing}
use mathlib.Core.Path.{sym, ◌∙◌}
use Rattle.map_reader.proofs.WhereLaws.{count_start, count_there, count_away, count_end}
use native.Mathlib.Omega.{arith}
use borrow.Author.Rules.{rules}
use Rattle.map_reader.proofs.build.Cells.count.Goals as goal
use Rattle.map_reader.proofs.build.Cells.count.Goals.{then-is_thing, else-is_thing}

pub loop-c-init : goal.loop-c-init
loop-c-init c =
    (search rules, search rules, count_start (is_thing c.args.self.now.marks.now c.args.self.now.table.now c.args.thing))

pub loop-c-preserved : goal.loop-c-preserved
loop-c-preserved c =
    let l = c.loop-c.invariant in
    let e = c.is_thing.ensures in
    let less = c.loop-c-test.true in
    elim c.if-is_thing.branch [
      | then-is_thing w ↦ (omega arith, omega (arith, w.found-is, l.1), w.found-is ∙ count_there _ _ _ l.2 (sym e ∙ w.if-is_thing.true))
      | else-is_thing w ↦ (omega arith, omega (arith, w.found-is, l.1), w.found-is ∙ count_away _ _ _ l.2 (sym e ∙ w.if-is_thing.false))
    ]

pub returns : goal.returns
returns c =
    let l = c.loop-c.invariant in
    (count_end _ _ _ _ l.2 l.0 c.loop-c-test.false, omega (arith, l.0, l.1))
