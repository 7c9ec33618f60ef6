-- `map_reader::build::Cells::nth` meets its contract: the cells passed that are the thing are counted, and are at most k.
use Prim.Native.Nat.{◌<◌}
use Rattle.map_reader.specs.Marks.{is_thing}
use mathlib.Core.Path.{sym, ◌∙◌}
use Rattle.map_reader.proofs.WhereLaws.{count_start, count_there, count_away, nth_there, nth_past, count_end}
use native.Mathlib.Omega.{arith}
use borrow.Author.Rules.{rules}
use Rattle.map_reader.proofs.build.Cells.nth.Goals as goal
use Rattle.map_reader.proofs.build.Cells.nth.Goals.{then-is_thing+else-before-k, else-is_thing}

pub loop-c-init : goal.loop-c-init
loop-c-init c = (
  search rules,
  search rules,
  search rules,
  count_start (is_thing c.args.self.now.marks.now c.args.self.now.table.now c.args.thing),
)

pub returns-then-before-k : goal.returns-then-before-k
returns-then-before-k c =
    let l = c.loop-c.invariant in
    nth_there _ _ _ _ _ c.loop-c-test.true (sym c.is_thing.ensures ∙ c.if-is_thing.true) l.3 c.if-before-k.true

pub loop-c-preserved : goal.loop-c-preserved
loop-c-preserved c =
    let l = c.loop-c.invariant in
    let e = c.is_thing.ensures in
    let less = c.loop-c-test.true in
    elim c.if-is_thing.branch [
      | then-is_thing+else-before-k w ↦
          let more : c.loop-c.before < c.args.k = omega (arith, l.2, w.if-before-k.false) in (
            omega arith,
            omega (arith, w.before-is, l.1),
            omega (arith, w.before-is),
            w.before-is ∙ count_there _ _ _ l.3 (sym e ∙ w.if-is_thing.true),
          )
      | else-is_thing w ↦ (
        omega arith,
        omega (arith, w.before-is, l.1),
        omega (arith, w.before-is, l.2),
        w.before-is ∙ count_away _ _ _ l.3 (sym e ∙ w.if-is_thing.false),
      )
    ]

pub returns : goal.returns
returns c =
    let l = c.loop-c.invariant in
    nth_past _ _ _ _ (count_end _ _ _ _ l.3 l.0 c.loop-c-test.false) l.2
