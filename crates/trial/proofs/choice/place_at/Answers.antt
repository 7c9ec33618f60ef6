-- `trial::choice::place_at` meets its contract: the loop has counted the open places so far, and stops at the one that has i before it.
use Rattle.std.proofs.Common.{sym, ◌∙◌, arith}
use Rattle.trial.specs.Inner.{open_count}
use Rattle.trial.proofs.CountLaws.{counted_start, counted_yes, counted_no, found_at, found_none}
use Rattle.trial.proofs.choice.place_at.Goals as goal
use Rattle.trial.proofs.choice.place_at.Goals.{then-open_at+else-before-i, else-open_at}

pub loop-p-init : goal.loop-p-init
loop-p-init c = (omega arith, counted_start _ _)

pub returns-then-before-i : goal.returns-then-before-i
returns-then-before-i c =
    rw (← c.count-all.ensures.0, ← c.if-before-i.true)
    (found_at _ _ _ _ c.loop-p.invariant.1 c.loop-p-test.true (sym c.open_at.ensures ∙ c.if-open_at.true))

pub loop-p-preserved : goal.loop-p-preserved
loop-p-preserved c =
    let tested = sym c.open_at.ensures in
    elim c.if-open_at.branch [
      | then-open_at+else-before-i w ↦ rw w.before-is (
        omega (arith, c.loop-p.invariant.0, w.if-before-i.false),
        counted_yes _ _ _ _ c.loop-p.invariant.1 c.loop-p-test.true (tested ∙ w.if-open_at.true),
      )
      | else-open_at w ↦ rw w.before-is
          (c.loop-p.invariant.0, counted_no _ _ _ _ c.loop-p.invariant.1 c.loop-p-test.true (tested ∙ w.if-open_at.false))
    ]

pub unreachable-requires : goal.unreachable-requires
unfolding open_count
unreachable-requires c =
    found_none _ _ _ _ _ (rw (← c.count-all.ensures.0) at c.requires.i_bound) c.loop-p.invariant.1 c.loop-p.invariant.0
    c.loop-p-test.false
