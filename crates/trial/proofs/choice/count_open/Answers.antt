-- `trial::choice::count_open` meets its contract: the loop has counted the open places so far.
use Rattle.std.proofs.Common.{sym, ◌∙◌}
use Rattle.trial.specs.Inner.{open_count}
use Rattle.trial.proofs.CountLaws.{counted_start, counted_yes, counted_no, counted_end}
use Rattle.trial.proofs.choice.count_open.Goals as goal
use Rattle.trial.proofs.choice.count_open.Goals.{then-open_at, else-open_at}

pub loop-p-init : goal.loop-p-init
loop-p-init c = counted_start _ _

pub loop-p-preserved : goal.loop-p-preserved
loop-p-preserved c =
    let tested = sym c.open_at.ensures in
    elim c.if-open_at.branch [
      | then-open_at w ↦ rw w.count-is (counted_yes _ _ _ _ c.loop-p.invariant c.loop-p-test.true (tested ∙ w.if-open_at.true))
      | else-open_at w ↦ rw w.count-is (counted_no _ _ _ _ c.loop-p.invariant c.loop-p-test.true (tested ∙ w.if-open_at.false))
    ]

pub returns : goal.returns
unfolding open_count
returns c = counted_end _ _ _ _ c.loop-p.invariant c.loop-p-test.false
