-- `printing::put_routes` meets its contract: the array has room for the answers of every accepted floor.
use mathlib.Core.Path.{ap, ◌∙◌}
use lib.ListN.{length, length-replicate}
use Prim.Native.Nat.{ℕ}
use native.Mathlib.Omega.{arith}
use Rattle.printing.proofs.PrintLaws.{plan_granted}
use Rattle.printing.proofs.put_routes.Goals as goal

pub put_plan-requires : goal.put_plan-requires
put_plan-requires c = record {
  answers_value = plan_granted _ _ _ c.requires.walls_value (omega (arith, ap length c.blank-answers.ensures ∙ length-replicate {A = ℕ} 520 0));
  f_in_bounds = c.requires.f_in_bounds;
}
