-- Lines of listed runs in a memory: 23 numbers each, how many steps a run has, then the numbers of its report.
use Rattle.std.specs.Prelude.{ℕ, suc, ◌-◌, ◌*◌, ◌/◌, ◌&&◌, cond, List, [], ◌∷◌, leb, ltb, length}
use Rattle.laws.specs.Memory.{put}
use Rattle.reference.specs.State.{Machine, fresh}
use Rattle.trial.specs.Report.{report_numbers}
use Rattle.listing.specs.Runs.{Run, report_from}

-- The lines with the run of a rank written, where the first line is that of rank `first`; a run that has no line is left out.
unfoldable pub line_written : (first rank steps : ℕ) → List ℕ → List ℕ → List ℕ
line_written first rank steps numbers lines =
    cond (leb first rank && ltb (rank - first) (length lines / 23)) (put lines (23 * (rank - first)) (steps ∷ numbers)) lines

-- The lines with these runs from fresh written, the first of them being that of a rank.
unfoldable pub listed_from : Machine → (first rank : ℕ) → List Run → List ℕ → List ℕ
listed_from M first rank [] lines = lines
listed_from M first rank (xs ∷ ys) lines =
    listed_from M first (suc rank) ys (line_written first rank (length xs) (report_numbers (report_from M fresh xs)) lines)
