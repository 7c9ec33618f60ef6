-- The claims, proved.
use Prim.Native.Nat.{ℕ, ◌≤◌, ◌<◌}
use native.Mathlib.Omega.{arith}
use native.Mathlib.Nat.{eq-or-lt_of_le}
use mathlib.Core.Logic.{⊎_elim, ◌↔◌}
use mathlib.Core.Bool.{true}
use mathlib.Core.List.{List, [], ◌∷◌}
use mathlib.Core.Path.{◌≡◌, sym, ◌∙◌, ap, subst}
use lib.ListN.{length}
use Rattle.laws.proofs.Tests.{lt_or_le}
use Rattle.reference.specs.State.{Machine, State, fresh}
use Rattle.reference.specs.Take.{after_step}
use Rattle.reference.specs.Ranking.{is_silent}
use Rattle.reference.specs.History.{after_steps}
use Rattle.reference.specs.Quiescent.{ceiling}
use Rattle.reference.proofs.Potential.{potential, fresh_potential}
use Rattle.orders.specs.Orders.{first, start_memory, remembered}
use Rattle.orders.specs.Trial.{Entry, trial, steps_in}
use Rattle.orders.specs.Rules.{FollowsOrder}
use Rattle.orders.proofs.Theorems.{theorems as orders-theorems}
use Rattle.listing.specs.Runs.{Run, runs_of, total, run_at}
use Rattle.listing.specs.Order.{Complete, EarlierRun}
use Rattle.listing.specs.Claims.{Claims}
use Rattle.listing.proofs.ListLaws.{all_at, sorted_at, HasPlace}
use Rattle.listing.proofs.RunLaws.{runs_complete, complete_placed, complete_short}
use Rattle.listing.proofs.OrderLaws.{one_place, earlier_one_way, runs_sorted}

module _ (M : Machine) where
  -- The potential of the fresh state is the ceiling.
  fresh_ceiling : potential M.carriers fresh ≤ ceiling M.carriers
  unfolding ceiling
  fresh_ceiling = omega (arith, fresh_potential M.carriers)

  listed_complete : (rank : ℕ) → rank < total M → Complete M fresh (run_at M rank)
  unfolding total run_at runs_of
  listed_complete rank l = all_at (Complete M fresh) [] (runs_of M) (runs_complete M (ceiling M.carriers) fresh) rank l

  complete_exactly : (xs : Run) → Complete M fresh xs ↔ ((rank : ℕ) × (rank < total M) × (run_at M rank ≡ xs))
  unfolding total run_at runs_of HasPlace
  complete_exactly xs = (
    λ c. complete_placed M (ceiling M.carriers) fresh xs c fresh_ceiling,
    λ h. subst (Complete M fresh) h.2 (listed_complete h.0 h.1),
  )

  earlier : (rank rank' : ℕ) → rank < rank' → rank' < total M → EarlierRun M.carriers (run_at M rank) (run_at M rank')
  unfolding total run_at runs_of
  earlier rank rank' l h = sorted_at (EarlierRun M.carriers) [] (runs_of M) (runs_sorted M (ceiling M.carriers) fresh) rank rank' l h

  -- No run is earlier than itself.
  not_itself : (rank rank' : ℕ) → rank < rank' → rank' < total M → run_at M rank ≡ run_at M rank' → ⊥
  not_itself rank rank' l h e =
      let g = earlier rank rank' l h in
      earlier_one_way M.carriers (run_at M rank) (run_at M rank') g
      (subst (λ (xs : Run). EarlierRun M.carriers xs (run_at M rank)) e
      (subst (λ (ys : Run). EarlierRun M.carriers (run_at M rank) ys) (sym e) g))

  one_rank : (rank rank' : ℕ) → rank < total M → rank' < total M → run_at M rank ≡ run_at M rank' → rank ≡ rank'
  one_rank rank rank' l h e =
      ⊎_elim (λ (g : rank < rank'). absurd (not_itself rank rank' g h e))
      (λ (g : rank' ≤ rank). ⊎_elim (λ (k : rank' ≡ rank). sym k) (λ (k : rank' < rank). absurd (not_itself rank' rank k l (sym e)))
      (eq-or-lt_of_le g))
      (lt_or_le rank rank')

  ranked : (rank rank' : ℕ) → rank < total M → rank' < total M → (rank < rank') ↔ EarlierRun M.carriers (run_at M rank) (run_at M rank')
  ranked rank rank' l h = (
    λ g. earlier rank rank' g h,
    λ (e : EarlierRun M.carriers (run_at M rank) (run_at M rank')).
        ⊎_elim (λ (g : rank < rank'). g)
        (λ (g : rank' ≤ rank).
        ⊎_elim
        (λ (k : rank' ≡ rank). absurd (earlier_one_way M.carriers (run_at M rank) (run_at M rank') e (itself k e)))
        (λ (k : rank' < rank). absurd (earlier_one_way M.carriers (run_at M rank) (run_at M rank') e (earlier rank' rank k l)))
        (eq-or-lt_of_le g))
        (lt_or_le rank rank'),
  )
    where
      itself : rank' ≡ rank → EarlierRun M.carriers (run_at M rank) (run_at M rank') →
          EarlierRun M.carriers (run_at M rank') (run_at M rank)
      itself k e = rw k (rw k at e)

  within_ceiling : (rank : ℕ) → rank < total M → length (run_at M rank) ≤ ceiling M.carriers
  within_ceiling rank l = omega (arith, complete_short M fresh (run_at M rank) (listed_complete rank l), fresh_ceiling)

-- A trial in order 1 is a complete run.
trial_complete : (M : Machine) (kept : ℕ) (s : State) (xs : List Entry) → FollowsOrder first M kept s xs →
    is_silent M (after_steps M s (steps_in xs)) ≡ true → Complete M s (steps_in xs)
unfolding FollowsOrder steps_in after_steps Complete
trial_complete M kept s [] h e = e
trial_complete M kept s (x ∷ xs) h e =
    (h.1.is_open, trial_complete M (remembered first kept h.0) (after_step M s x.taken) xs h.2 e)

pub some_run : (M : Machine) → 0 < total M
some_run M =
    let x = trial first M 0 in
    let silent : is_silent M (after_steps M fresh (steps_in x.report)) ≡ true =
    ap (is_silent M) (sym (orders-theorems.leads first M 0)) ∙ orders-theorems.ends_silent first M 0 in
    let r = (complete_exactly M (steps_in x.report)).0
    (trial_complete M (start_memory first 0) fresh x.report (orders-theorems.by_rule first M 0) silent) in
    omega (arith, r.1)

pub theorems : Claims
theorems =
    record {
      one_place = one_place;
      complete_exactly = complete_exactly;
      one_rank = one_rank;
      ranked = ranked;
      within_ceiling = within_ceiling;
      some_run = some_run;
    }
