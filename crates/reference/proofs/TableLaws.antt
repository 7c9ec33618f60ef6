-- Laws of the table of refusals: what is lent, single steps, lists of named steps.
use Prim.Native.Nat.{ℕ, suc, ◌+◌, ◌≤◌, ◌<◌}
use native.Mathlib.Omega.{arith}
use mathlib.Core.Bool.{true}
use mathlib.Core.List.{List, [], ◌∷◌, ◌++◌, map}
use mathlib.Core.Logic.{◌↔◌}
use mathlib.Core.Path.{◌≡◌, refl, ap}
use borrow.Author.Tests.{le-leb, lt-leb, leb-true}
use lib.ListN.{length, get_or, length-append, get_or-append}
use lib.Seq.{get_or-append-add}
use Rattle.laws.specs.Verdict.{passed, refused, All}
use Rattle.laws.proofs.Tests.{true_false_absurd}
use Rattle.laws.proofs.VerdictLaws.{then_both, demand_holds, demand_passes, demand_refuses}
use Rattle.laws.proofs.EachLaws.{each_passed, all_passes}
use Rattle.reference.specs.State.{Machine, State}
use Rattle.reference.specs.Step.{Step, is_there, is_open}
use Rattle.reference.specs.Table.{Asked, step, no_step, is_named, steps_of, single, lent_enough, all_named, open_single, verdict}
use Rattle.reference.proofs.OpenLaws.{ready_open}

module _ (M : Machine) where
  pub enough_lent : (lent : ℕ) → M.needed ≤ lent → lent_enough M lent ≡ passed
  unfolding lent_enough
  enough_lent lent l = demand_passes 9 0 (le-leb M.needed lent l)

  pub lent_enough_lem : (lent : ℕ) → lent_enough M lent ≡ passed → M.needed ≤ lent
  unfolding lent_enough
  lent_enough_lem lent e = leb-true M.needed lent (demand_holds _ 9 0 e)

  pub short_lent : (lent : ℕ) → lent < M.needed → lent_enough M lent ≡ refused 9 0
  unfolding lent_enough
  short_lent lent l = demand_refuses 9 0 (lt-leb M.needed lent l)

  -- A single step that the table lets through is open.
  pub single_open : (s : State) (lent : ℕ) (x : Step) → verdict M s (single lent (step x)) ≡ passed → is_open M s x ≡ true
  unfolding verdict open_single
  single_open s lent x e =
      let v = then_both _ _ (then_both _ _ e).1 in
      ready_open M s x (demand_holds (is_there M x) 7 0 v.0) v.1

  -- The list is let through exactly if each of its steps is there.
  pub named_means : (xs : List Asked) (i : ℕ) → (is_named M (get_or xs i no_step) ≡ true) ↔ (is_named M (get_or xs i no_step) ≡ true)
  named_means xs i = (λ h. h, λ h. h)

  pub named_each : (xs : List Asked) → all_named M xs ≡ passed → All (λ i. is_named M (get_or xs i no_step) ≡ true) (length xs)
  unfolding all_named
  named_each xs e = each_passed 7 0 _ _ (named_means xs) (length xs) e

  pub each_named : (xs : List Asked) → All (λ i. is_named M (get_or xs i no_step) ≡ true) (length xs) → all_named M xs ≡ passed
  unfolding all_named
  each_named xs h = all_passes 7 0 _ _ (named_means xs) (length xs) h

  pub named_front : (xs ys : List Asked) → all_named M (xs ++ ys) ≡ passed → all_named M xs ≡ passed
  named_front xs ys e =
      each_named xs
      (λ i l. rw (get_or-append xs ys no_step i l) at (named_each (xs ++ ys) e i (omega (arith, length-append xs ys))))

  pub named_rest : (xs ys : List Asked) → all_named M (xs ++ ys) ≡ passed → all_named M ys ≡ passed
  named_rest xs ys e =
      each_named ys
      (λ i l. rw (get_or-append-add xs ys i no_step) at (named_each (xs ++ ys) e (length xs + i) (omega (arith, length-append xs ys))))

  -- A list of named steps is the list of its steps.
  pub all_steps : (xs : List Asked) → All (λ i. is_named M (get_or xs i no_step) ≡ true) (length xs) → map step (steps_of xs) ≡ xs
  unfolding steps_of is_named
  all_steps [] h = refl
  all_steps (step x ∷ xs) h = ap (λ (xs : List Asked). step x ∷ xs) (all_steps xs (λ i l. h (suc i) (omega arith)))
  all_steps (no_step ∷ xs) h = true_false_absurd (h 0 (omega arith)) refl

-- The steps of two lists.
pub steps_append : (xs ys : List Asked) → steps_of (xs ++ ys) ≡ steps_of xs ++ steps_of ys
unfolding steps_of
steps_append [] ys = refl
steps_append (step x ∷ xs) ys = ap (λ (xs : List Step). x ∷ xs) (steps_append xs ys)
steps_append (no_step ∷ xs) ys = steps_append xs ys
