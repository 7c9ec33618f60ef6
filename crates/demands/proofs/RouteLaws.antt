-- The rows of the entries over lent routes and records: the conflict test, the check of a record, the arrival.
use Prim.Native.Nat.{ℕ}
use mathlib.Core.List.{List}
use lib.ListN.{length}
use Rattle.floor.specs.declared.Floor.{Floor}
use Rattle.floor.specs.Checks.{check_of, long_enough}
use Rattle.conflict.specs.Entry.{routes_lent, conflict_outcome}
use Rattle.legality.specs.Entry.{record_verdict, record_outcome, arrival_outcome}
use Rattle.lengths.specs.Figures.{lengths_of}
use Rattle.demands.specs.Rows.{Answers}
use Rattle.demands.specs.Demand1.{ConflictRows, RecordRows, ArrivalRows}
use Rattle.demands.proofs.RowLaws.{then_rows, gives_rows, short_row}
use Rattle.demands.proofs.EntryLaws.{floor_rows, outside_row}

pub conflict : (f : Floor) (r q : List ℕ) (horizon : ℕ) → Answers (conflict_outcome r q horizon) (ConflictRows f (length r) (length q))
unfolding conflict_outcome routes_lent lengths_of
conflict f r q horizon =
    gives_rows (routes_lent r q) _ (then_rows (long_enough 64 (length r)) _ (short_row 64 (length r)) (λ e. short_row 64 (length q)))

pub check_record : (f : Floor) (ws : List ℕ) (carrier : ℕ) (m : List ℕ) →
    Answers (record_outcome f ws carrier m) (RecordRows f ws carrier (length m))
unfolding record_outcome record_verdict lengths_of
check_record f ws carrier m =
    gives_rows (record_verdict f ws carrier (length m)) _
    (then_rows (check_of f ws) _ (floor_rows f ws)
    (λ e. then_rows (long_enough 65 (length m)) _ (short_row 65 (length m)) (λ h. outside_row 1 f.carriers carrier 7 0)))

pub arrival : (f : Floor) (r : List ℕ) (horizon : ℕ) → Answers (arrival_outcome r horizon) (ArrivalRows f (length r))
unfolding arrival_outcome lengths_of
arrival f r horizon = gives_rows (long_enough 64 (length r)) _ (short_row 64 (length r))
