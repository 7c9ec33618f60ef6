-- `lengths::report_length` meets its contract: two numbers for each step of the ceiling.
use native.Mathlib.Omega.{arith}
use Rattle.trial.proofs.OrderLaws.{most_or}
use Rattle.lengths.proofs.ReportLaws.{report_told}
use Rattle.lengths.proofs.report_length.Goals as goal

pub overflow_mul-result : goal.overflow_mul-result
overflow_mul-result c = omega (arith, (most_or _ _ c.ceiling.ensures).1, c.unwrap_or.ensures)

pub returns : goal.returns
returns c = report_told _ _ (rw c.unwrap_or.ensures ((most_or _ _ c.ceiling.ensures).0 c.requires.0 c.requires.1))
