use mathlib.Core.Path.{◌≡◌}
use Rattle.reporting.specs.Text.{entry_count}
use Rattle.reporting.proofs.ReportLaws.{EntriesPut}
use Rattle.reporting.proofs.put_entries.Given as goal

abbrev pub invariant-loop-k : goal.invariant-loop-k
invariant-loop-k l = (l.steps ≡ entry_count l.report) × EntriesPut l.report l.initial.out 16 l.k l.out l.at
