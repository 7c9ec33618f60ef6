-- `trial::play::take_all` meets its contract: the loop has played the trial so far.
use Rattle.std.proofs.Common.{◌≡◌, sym, ◌∙◌, arith}
use Rattle.steps.proofs.PlacedLaws.{placed_sized, workable_same}
use Rattle.trial.specs.Inner.{trial_by}
use Rattle.trial.proofs.EntryLaws.{checked_carriers, memory_round, report_left, some_open}
use Rattle.trial.proofs.PlayLaws.{playing_start, playing_more, stopped, stops_silent, stops_spent}
use Rattle.trial.proofs.play.take_all.Goals as goal

pub count-all-requires : goal.count-all-requires
count-all-requires c =
    (placed_sized c.requires.workable.placed).0

pub loop-t-init : goal.loop-t-init
loop-t-init c =
    let n = checked_carriers _ _ c.requires.walls_value in (
      c.count-all.ensures.0,
      c.most_steps-most.ensures.0 n.0 n.1,
      rw c.start-c.ensures (playing_start _ _ _ _ _ _ c.requires.m_value),
    )

pub invariant_of-now : goal.invariant_of-now
invariant_of-now c = record {
  few = (placed_sized c.requires.workable.placed).0;
  whole = omega (arith, c.loop-t.invariant.2.long, c.requires.workable.placed.enough);
}

pub shape_of-m-then-candidates-eq0 : goal.shape_of-m-then-candidates-eq0
shape_of-m-then-candidates-eq0 c =
    c.loop-t.invariant.2.long

pub shape_of-report-then-candidates-eq0 : goal.shape_of-report-then-candidates-eq0
shape_of-report-then-candidates-eq0 c =
    c.loop-t.invariant.2.wide

pub returns-then-candidates-eq0 : goal.returns-then-candidates-eq0
unfolding trial_by
returns-then-candidates-eq0 c =
    let inv = c.loop-t.invariant in
    let none = sym c.count_open-candidates.ensures.0 ∙ c.if-candidates-eq0.true in
    let both = stopped _ _ _ _ _ _ c.requires.walls_value inv.2 (stops_silent _ _ _ _ _ _ c.requires.walls_value inv.2 (rw inv.0 at none)) in
    record { answers = both.0; stores = both.1.0; reports = both.1.1 }

pub advance-c-requires : goal.advance-c-requires
advance-c-requires c =
    let inv = c.loop-t.invariant in record {
      candidates_value = (rw inv.0 at c.count_open-candidates.ensures.0, omega (arith, c.if-candidates-eq0.false));
      kept_bound = memory_round _ _ _ _ inv.2.keeps;
      workable = workable_same inv.2.long c.requires.workable;
      t_bound = (
        omega (arith, c.loop-t-test.true, c.most_steps-most.ensures.1),
        report_left _ _ _ _ _ inv.1 c.loop-t-test.true c.requires.carriers_in_bounds inv.2.wide,
      );
    }

pub loop-t-preserved : goal.loop-t-preserved
loop-t-preserved c =
    let inv = c.loop-t.invariant in
    let some = some_open (rw inv.0 at c.count_open-candidates.ensures.0) c.if-candidates-eq0.false in (
      inv.0,
      inv.1,
      playing_more _ _ _ _ _ _ c.requires.walls_value inv.2 some (rw inv.1 at c.loop-t-test.true)
          c.requires.carriers_in_bounds c.advance-c.auto.m c.advance-c.ensures,
    )

pub shape_of-m : goal.shape_of-m
shape_of-m c =
    c.loop-t.invariant.2.long

pub shape_of-report : goal.shape_of-report
shape_of-report c =
    c.loop-t.invariant.2.wide

pub returns : goal.returns
unfolding trial_by
returns c =
    let inv = c.loop-t.invariant in
    let both = stopped _ _ _ _ _ _ c.requires.walls_value inv.2 (stops_spent _ _ _ _ _ _ c.requires.walls_value inv.2 (rw inv.1 at c.loop-t-test.false)) in
    let same : c.loop-t.t ≡ c.most_steps-most.result = omega arith in
    record { answers = rw same at both.0; stores = both.1.0; reports = both.1.1 }
