-- `desk::played::put_trial` meets its contract: the memory is for the most carriers, so that only the order decides.
use Prim.Native.Nat.{ℕ}
use mathlib.Core.List.{List}
use mathlib.Core.Path.{◌≡◌, sym}
use lib.ListN.{length, take}
use Rattle.laws.specs.Verdict.{◌gives◌}
use Rattle.trial.specs.Entry.{trial_of, tried_outcome}
use Rattle.desk.specs.Text.{order_verdict}
use lib.Seq.{length-take-le}
use Rattle.reporting.proofs.TextLaws.{numbers_few}
use Rattle.desk.proofs.PlayedLaws.{order_says, steps_told, steps_low, refusal_told, report_front, played_put, refused_put}
use native.Mathlib.Omega.{arith}
use borrow.Author.Rules.{rules}
use Rattle.desk.proofs.played.put_trial.Goals as goal
use Rattle.desk.proofs.played.put_trial.Goals.{After-trial}

-- The answer to the trial is the order's verdict, or all steps.
said : (c : After-trial) →
    let args = c.args in
    let ws : List ℕ = take args.f.walls args.walls.now in
    tried_outcome c.trial.result ≡ (order_verdict args.order gives length (trial_of args.f ws args.order args.seed).report)
said c =
    order_says _ _ c.requires.walls_value _ _ _ _ _ (search rules)
    (search rules) c.trial.ensures.answers

pub slice_bounds-trial-end : goal.slice_bounds-trial-end
slice_bounds-trial-end c =
    sym (length-take-le _ _ c.requires.walls_in_bounds.0)

pub slice_bounds-put_played-end : goal.slice_bounds-put_played-end
slice_bounds-put_played-end c =
    sym (length-take-le _ _ c.requires.walls_in_bounds.0)

pub overflow_mul-report : goal.overflow_mul-report
overflow_mul-report c =
    let low = steps_low _ _ c.requires.walls_value _ _ _ (said (goal.at.overflow_mul-report c).After-trial) _ c.in-Ok.is in
    search rules

pub slice_bounds-report-end : goal.slice_bounds-report-end
slice_bounds-report-end c =
    omega (arith, steps_low _ _ c.requires.walls_value _ _ _ (said (goal.at.slice_bounds-report-end c).After-trial) _ c.in-Ok.is)

pub slice_bounds-put_played-end-in-Ok : goal.slice_bounds-put_played-end-in-Ok
slice_bounds-put_played-end-in-Ok c =
    let low = steps_low _ _ c.requires.walls_value _ _ _ (said (goal.at.slice_bounds-put_played-end-in-Ok c).After-trial) _ c.in-Ok.is in
    sym (length-take-le _ _ (omega arith))

pub put_played-requires : goal.put_played-requires
put_played-requires c =
    let low = steps_low _ _ c.requires.walls_value _ _ _ (said (goal.at.put_played-requires c).After-trial) _ c.in-Ok.is in
    (c.requires.walls_value, (numbers_few _ _ low, c.requires.walls_in_bounds.1))

pub put_refusal-requires : goal.put_refusal-requires
put_refusal-requires c =
    let t = refusal_told _ _ c.requires.walls_value _ _ _ (said (goal.at.put_refusal-requires c).After-trial) _ c.in-Err.is in
    (omega (arith, t.1), omega (arith, c.requires.walls_in_bounds.1))

pub returns-in-Ok : goal.returns-in-Ok
returns-in-Ok c =
    let told = steps_told _ _ c.requires.walls_value _ _ _ (said (goal.at.returns-in-Ok c).After-trial) _ c.in-Ok.is in
    let front = report_front _ _ c.requires.walls_value _ _ _ _ _ _ (search rules)
    (search rules) told c.trial.ensures.reports in
    played_put _ _ _ _ _ _ _ _ told.0 front c.put_played.ensures

pub returns-in-Err : goal.returns-in-Err
returns-in-Err c =
    let t = refusal_told _ _ c.requires.walls_value _ _ _ (said (goal.at.returns-in-Err c).After-trial) _ c.in-Err.is in
    refused_put _ _ _ _ _ _ _ _ _ t.0 (rw c.number.ensures at c.put_refusal.ensures)
