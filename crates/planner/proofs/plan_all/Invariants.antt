use Prim.Native.Nat.{◌-◌}
use mathlib.Core.Path.{◌≡◌}
use lib.ListN.{length}
use Rattle.route.specs.Sequential.{sequential}
use Rattle.layers.specs.Table.{search_grid_of, Tidy}
use Rattle.layers.specs.FreeTable.{IsFreeTable}
use Rattle.records.specs.Records.{records, stored}
use Rattle.records.specs.Seen.{seen}
use Rattle.planner.specs.Plan.{respond_with}
use Rattle.planner.proofs.plan_all.Given as goal

abbrev pub invariant-loop-i : goal.invariant-loop-i
invariant-loop-i l =
    (l.answers ≡ stored (sequential (respond_with l.f l.free) l.i) l.initial.answers) × IsFreeTable (search_grid_of l.f) (l.i - 1) l.free l.shown l.table
    × (length l.shown ≡ 520) × (records l.shown l.i ≡ seen l.f (records l.answers l.i)) × Tidy (search_grid_of l.f) l.sets
