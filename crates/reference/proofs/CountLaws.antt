-- The taken count: the number of steps taken, or the largest count if that is more.
use Prim.Native.Nat.{ℕ, suc, ◌+◌, ◌≤◌, min}
use native.Mathlib.Omega.{arith}
use mathlib.Core.List.{List}
use mathlib.Core.Path.{◌≡◌, refl}
use Rattle.reference.specs.State.{Machine, State, fresh, tick}
use Rattle.reference.specs.Step.{Step, plan, deliver}
use Rattle.reference.specs.Take.{plan_as, deliver_to, effect, counted, after_step}
use Rattle.reference.specs.History.{Reachable, stay, next}
use Rattle.reference.specs.Table.{Call}
use Rattle.reference.specs.Calls.{replies, after}
use Rattle.reference.specs.Quiescent.{replies_count}
use Rattle.reference.proofs.ReachLaws.{calls_reach}

module _ (M : Machine) where
  pub step_counts : (s : State) (x : Step) → (after_step M s x).taken ≡ min 999999 (suc s.taken)
  unfolding after_step effect counted plan_as deliver_to tick
  step_counts s (plan i) = refl
  step_counts s (deliver j i) = refl

  pub reaches_counts : {s z : State} {t : ℕ} → s.taken ≤ 999999 → Reachable M s z t → z.taken ≡ min 999999 (s.taken + t)
  reaches_counts {s = s} l stay = omega arith
  reaches_counts {s = s} l (next x e p) =
      omega (arith, step_counts s x, reaches_counts (omega (arith, step_counts s x)) p)

  pub calls_count : (xs : List Call) → (after M fresh xs).taken ≡ min 999999 (replies_count (replies M fresh xs))
  unfolding fresh
  calls_count xs = omega (arith, reaches_counts {s = fresh} (omega arith) (calls_reach M fresh xs))
