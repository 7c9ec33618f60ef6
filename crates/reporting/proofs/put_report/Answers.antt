-- `reporting::put_report` meets its contract: line 1 and the lines of the entries behind it.
use Rattle.reporting.specs.Text.{report_length}
use borrow.Author.Rules.{rules}
use borrow.Author.Rules.{rules}
use Rattle.reporting.specs.Text.{entry_count}
use Rattle.reporting.proofs.ReportLaws.{report_put}
use Rattle.reporting.proofs.put_report.Goals as goal

pub returns : goal.returns
unfolding entry_count
returns c =
    report_put _ _ c.args.report.now _ _ _ _ _ c.put_line.ensures c.put_entries.ensures
    c.requires.1

pub overflow_cast-report : goal.overflow_cast-report
unfolding entry_count report_length
overflow_cast-report c = search rules

pub put_line-requires : goal.put_line-requires
unfolding entry_count report_length
put_line-requires c = search rules
