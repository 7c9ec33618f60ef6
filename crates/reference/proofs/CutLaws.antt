-- A run cut in two is the run of the first part and then the run of the rest with what is left of the budget.
use Prim.Native.Nat.{ℕ, suc, ◌+◌, ◌-◌, ◌≤◌}
use native.Mathlib.Omega.{arith}
use mathlib.Core.Bool.{Bool, true, false}
use mathlib.Core.List.{List, [], ◌∷◌, ◌++◌}
use mathlib.Core.Path.{◌≡◌, refl, ap}
use lib.Dec.{eqb}
use borrow.Author.Tests.{eqb-true, eqb-false, eq-eqb, ne_eqb}
use Rattle.reference.specs.State.{Machine, State}
use Rattle.reference.specs.Step.{Step, is_open}
use Rattle.reference.specs.Take.{after_step}
use Rattle.reference.specs.Run.{Event, took, skipped, RunResult, took_first, skipped_first, run}
use Rattle.reference.specs.Ending.{ending}
use Rattle.reference.specs.History.{RunsJoined}
use Rattle.reference.proofs.RunLaws.{run_took, run_skipped, run_induction, run_faithful}

-- Run x of the steps xs with budget b, followed by any further steps ys, is the run of both lists.
Followed : Machine → State → List Step → ℕ → RunResult → Type 0
Followed M s xs b x = (ys : List Step) → RunsJoined (run M s (xs ++ ys) b) x (run M x.state ys (b - x.taken))

same_test : (n p b : ℕ) → n ≤ b → eqb (n + p) b ≡ eqb p (b - n)
same_test n p b l = go (eqb p (b - n)) refl
  where
    go : (x : Bool) → eqb p (b - n) ≡ x → eqb (n + p) b ≡ x
    go true e = eq-eqb (n + p) b (omega (arith, eqb-true p (b - n) e))
    go false e = ne_eqb (n + p) b (λ (h : n + p ≡ b). eqb-false p (b - n) e (omega arith))

module _ (M : Machine) where
  followed_none : (s : State) (b : ℕ) → Followed M s [] b (run M s [] b)
  unfolding Followed run
  followed_none s b ys =
      let whole : b - 0 ≡ b = omega arith in
      rw whole (record { state = refl; history = refl; taken = omega arith; unread = refl })

  followed_stopped : (s : State) (x : Step) (xs : List Step) → Followed M s (x ∷ xs) 0 (run M s (x ∷ xs) 0)
  unfolding Followed run
  followed_stopped s x xs [] = record { state = refl; history = refl; taken = refl; unread = refl }
  followed_stopped s x xs (y ∷ ys) = record { state = refl; history = refl; taken = refl; unread = refl }

  followed_took : (s : State) (x : Step) (xs : List Step) (b : ℕ) (y : RunResult) → is_open M s x ≡ true →
      Followed M (after_step M s x) xs b y → Followed M s (x ∷ xs) (suc b) (took_first x y)
  unfolding Followed took_first
  followed_took s x xs b y e p ys =
      let q = p ys in
      let less : suc b - suc y.taken ≡ b - y.taken = omega arith in
      rw (run_took M s x (xs ++ ys) b e, less)
      (record {
        state = q.state;
        history = ap (λ (xs : List Event). took x ∷ xs) q.history;
        taken = omega (arith, q.taken);
        unread = q.unread;
      })

  followed_passed : (s : State) (x : Step) (xs : List Step) (b : ℕ) (y : RunResult) → is_open M s x ≡ false →
      Followed M s xs (suc b) y → Followed M s (x ∷ xs) (suc b) (skipped_first x y)
  unfolding Followed skipped_first
  followed_passed s x xs b y e p ys =
      rw (run_skipped M s x (xs ++ ys) b e)
      (record {
        state = (p ys).state;
        history = ap (λ (xs : List Event). skipped x ∷ xs) (p ys).history;
        taken = (p ys).taken;
        unread = (p ys).unread;
      })

  pub run_cut : (s : State) (xs ys : List Step) (b : ℕ) →
      RunsJoined (run M s (xs ++ ys) b) (run M s xs b) (run M (run M s xs b).state ys (b - (run M s xs b).taken))
  unfolding Followed
  run_cut s xs ys b = run_induction M (Followed M) followed_none followed_stopped followed_took followed_passed s xs b ys

  -- The end of a joined run, where the first part y is read to its end.
  joined_ending : (b : ℕ) (x y z : RunResult) → RunsJoined x y z → y.taken ≤ b → y.unread ≡ [] → ending M b x ≡ ending M (b - y.taken) z
  unfolding ending
  joined_ending b x y z j l e =
      let left : x.unread ≡ z.unread = rw (j.unread, e) in
      rw (j.state, j.taken, same_test y.taken z.taken b l, left)

  pub cut_ending : (s : State) (xs ys : List Step) (b : ℕ) → (run M s xs b).unread ≡ [] →
      ending M b (run M s (xs ++ ys) b) ≡ ending M (b - (run M s xs b).taken) (run M (run M s xs b).state ys (b - (run M s xs b).taken))
  cut_ending s xs ys b e =
      joined_ending b (run M s (xs ++ ys) b) (run M s xs b) (run M (run M s xs b).state ys (b - (run M s xs b).taken)) (run_cut s xs ys b)
      (run_faithful M s xs b).within e
