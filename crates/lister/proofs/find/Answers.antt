-- `lister::find` meets its contract: the one line of the window is that of the rank; where there is none, nothing is reported.
use mathlib.Core.Path.{sym, ◌∙◌}
use Rattle.floor.specs.Answers.{outcome_by}
use Rattle.lister.proofs.EntryLaws.{small_tells, not_below, is_below, found_line, line_serves, line_report}
use Rattle.lister.proofs.EntryLaws.{refused_answer, refused_report, found_answer, found_report}
use Rattle.lister.proofs.find.Goals as goal

pub list-total-requires : goal.list-total-requires
list-total-requires c =
    let small = small_tells _ _ _ c.requires in
    (small.checked, small.few)

pub returns-then-rank-total : goal.returns-then-rank-total
unfolding outcome_by
returns-then-rank-total c =
    let beyond = not_below c.list-total.ensures.counts c.if-rank-total.true in record {
      answers = refused_answer _ _ _ c.args.report.now c.requires beyond;
      reports = refused_report _ _ _ _ c.requires beyond;
    }

pub report_line-requires : goal.report_line-requires
report_line-requires c =
    let small = small_tells _ _ _ c.requires in
    let below = is_below c.list-total.ensures.counts c.if-rank-total.false in
    let found = found_line _ _ small.few _ below _ _ (sym c.no_line-line.ensures) c.list-total.ensures.lists in
    let serves = line_serves _ _ _ _ small _ found in
    (serves.0, (c.list-total.auto.lines ∙ sym c.no_line-line.ensures, serves.1))

pub returns : goal.returns
unfolding outcome_by
returns c =
    let small = small_tells _ _ _ c.requires in
    let below = is_below c.list-total.ensures.counts c.if-rank-total.false in
    let found = found_line _ _ small.few _ below _ _ (sym c.no_line-line.ensures) c.list-total.ensures.lists in
    let told = c.report_line.ensures in record {
      answers = found_answer _ _ _ c.args.report.now c.requires below _ _ c.list-total.ensures.counts (told.answers ∙ found.steps);
      reports = found_report _ _ _ _ c.requires below _ (line_report _ _ _ _ small _ found _ _ told.reports);
    }
