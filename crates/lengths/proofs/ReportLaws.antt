-- The needed length of a report, from the ceiling as its entry tells it.
use Prim.Native.Nat.{ℕ, ◌*◌}
use native.Mathlib.Omega.{arith}
use mathlib.Core.Path.{◌≡◌}
use Rattle.reference.specs.Quiescent.{ceiling}
use Rattle.trial.specs.Report.{report_size}

pub report_told : (n t : ℕ) → t ≡ ceiling n → 2 * t ≡ report_size n
unfolding report_size
report_told n t e = omega arith
