-- The answers of the conflict test as an entry: 9 for either route, or what the test finds.
use Prim.Native.Nat.{ℕ, min}
use mathlib.Core.List.{List}
use mathlib.Core.Path.{◌≡◌, ap}
use Rattle.std.specs.Prelude.{Option, Result, Ok, Err, ⊤}
use Rattle.std.specs.Result.{IsErrAnd}
use Rattle.std.proofs.lemmas.Result.{err_from_is_err_and}
use lib.ListN.{length}
use Rattle.laws.specs.Memory.{part}
use Rattle.laws.specs.Verdict.{value, ◌then◌, ◌gives◌}
use Rattle.floor.specs.declared.Refusal.{Refusal}
use Rattle.floor.specs.Answers.{outcome_by, verdict_of}
use Rattle.floor.specs.Checks.{long_enough}
use Rattle.route.specs.declared.Conflict.{Conflict}
use Rattle.route.specs.ConflictTest.{conflict_told, first_conflict}
use Rattle.conflict.specs.Entry.{compared_outcome, routes_lent, conflict_outcome}

module _ (r q : List ℕ) (horizon : ℕ) where
  -- Either length is refused, and a `?` hands that on.
  short : (y : Result (Option Conflict) Refusal) (e : Refusal) → verdict_of (Err e) ≡ routes_lent r q → IsErrAnd y (λ d. d ≡ e) →
      compared_outcome y ≡ conflict_outcome r q horizon
  unfolding outcome_by conflict_outcome verdict_of ◌gives◌
  short y e h s = let p = err_from_is_err_and y s in rw (p.1, p.2, ← h)

  pub first_short : (y : Result (Option Conflict) Refusal) (e : Refusal) → verdict_of (Err e) ≡ long_enough 64 (length r) →
      IsErrAnd y (λ d. d ≡ e) → compared_outcome y ≡ conflict_outcome r q horizon
  unfolding routes_lent verdict_of ◌then◌
  first_short y e h s = short y e (rw (← h)) s

  pub second_short : (y : Result (Option Conflict) Refusal) (u : ⊤) (e : Refusal) → verdict_of (Ok u) ≡ long_enough 64 (length r) →
      verdict_of (Err e) ≡ long_enough 64 (length q) → IsErrAnd y (λ d. d ≡ e) → compared_outcome y ≡ conflict_outcome r q horizon
  unfolding routes_lent verdict_of ◌then◌
  second_short y u e g h s = short y e (rw (← g) h) s

  -- Both are lent: what the test finds.
  pub both_lent : (found : Option Conflict) (u v : ⊤) → verdict_of (Ok u) ≡ long_enough 64 (length r) →
      verdict_of (Ok v) ≡ long_enough 64 (length q) →
      conflict_told found ≡ first_conflict (min horizon 63) (part r 0 64) (part q 0 64) →
      compared_outcome (Ok found) ≡ conflict_outcome r q horizon
  unfolding outcome_by conflict_outcome routes_lent verdict_of ◌then◌ ◌gives◌
  both_lent found u v g h e = rw (← g, ← h) (ap value e)
