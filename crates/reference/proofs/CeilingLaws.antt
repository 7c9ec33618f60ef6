-- The step ceiling: every open step lowers the potential, which is 2^(n + 1) − n − 2 at fresh.
use Prim.Native.Nat.{ℕ, ◌+◌, ◌≤◌, ◌<◌}
use native.Mathlib.Omega.{arith}
use mathlib.Core.Bool.{true}
use mathlib.Core.List.{List}
use mathlib.Core.Path.{◌≡◌}
use Rattle.reference.specs.State.{Machine, State, fresh, views}
use Rattle.reference.specs.Step.{Step, plan, deliver, is_open}
use Rattle.reference.specs.Take.{effect, counted, after_step}
use Rattle.reference.specs.History.{Reachable, stay, next}
use Rattle.reference.specs.Table.{Call}
use Rattle.reference.specs.Calls.{replies}
use Rattle.reference.specs.Quiescent.{replies_count, ceiling}
use Rattle.reference.proofs.OpenLaws.{plan_within, plan_due, deliver_above, deliver_within, deliver_full}
use Rattle.reference.proofs.Potential.{potential, weight_at, under_way, fresh_potential}
use Rattle.reference.proofs.ReachLaws.{calls_reach}
use Rattle.reference.proofs.PlanWeight.{plan_lowers}
use Rattle.reference.proofs.DeliverWeight.{deliver_lowers}

-- The taken count has no weight.
counted_weighs : (n : ℕ) (z : State) (w : ℕ) → potential n z < w → potential n (counted z) < w
unfolding counted potential weight_at under_way
counted_weighs n z w l = l

pub step_lowers : (M : Machine) (s : State) (x : Step) → is_open M s x ≡ true →
    potential M.carriers (after_step M s x) < potential M.carriers s
unfolding after_step effect
step_lowers M s (plan i) e =
    counted_weighs M.carriers _ _ (plan_lowers M.carriers s i (M.respond i (views s i)) (plan_due M s i e) (plan_within M s i e))
step_lowers M s (deliver j i) e =
    counted_weighs M.carriers _ _
    (deliver_lowers M.carriers s j i (deliver_above M s j i e) (deliver_within M s j i e) (deliver_full M s j i e))

pub reaches_lowers : (M : Machine) {s z : State} {t : ℕ} → Reachable M s z t →
    potential M.carriers z + t ≤ potential M.carriers s
reaches_lowers M stay = omega arith
reaches_lowers M {s = s} (next x e p) = omega (arith, step_lowers M s x e, reaches_lowers M p)

-- The step ceiling: from fresh, no list of calls takes more steps.
pub calls_ceiling : (M : Machine) (xs : List Call) → replies_count (replies M fresh xs) ≤ ceiling M.carriers
unfolding ceiling
calls_ceiling M xs = omega (arith, reaches_lowers M (calls_reach M fresh xs), fresh_potential M.carriers)
