-- Laws of a run: its two equations at an open and at a shut step, its history.
use Prim.Native.Nat.{ℕ, zero, suc}
use native.Mathlib.Omega.{arith}
use mathlib.Core.Bool.{Bool, true, false}
use mathlib.Core.List.{List, [], ◌∷◌}
use mathlib.Core.Logic.{◌⊎◌, inl, inr}
use mathlib.Core.Path.{◌≡◌, refl, ap}
use Rattle.reference.specs.State.{Machine, State}
use Rattle.reference.specs.Step.{Step, is_open}
use Rattle.reference.specs.Take.{after_step}
use Rattle.reference.specs.Run.{RunResult, took_first, skipped_first, run}
use Rattle.reference.specs.History.{Faithful, steps_read, steps_taken, after_steps, FaithfulRun}

module _ (M : Machine) where
  pub run_took : (s : State) (x : Step) (xs : List Step) (b : ℕ) → is_open M s x ≡ true →
      run M s (x ∷ xs) (suc b) ≡ took_first x (run M (after_step M s x) xs b)
  unfolding run
  run_took s x xs b e = rw (e, run)

  pub run_skipped : (s : State) (x : Step) (xs : List Step) (b : ℕ) → is_open M s x ≡ false →
      run M s (x ∷ xs) (suc b) ≡ skipped_first x (run M s xs (suc b))
  unfolding run
  run_skipped s x xs b e = rw (e, run)

  -- A property of runs that holds where nothing is read, and that taking or passing over one more step keeps, holds of every run.
  pub run_induction : (P : State → List Step → ℕ → RunResult → Type 0) →
      ((s : State) (b : ℕ) → P s [] b (run M s [] b)) →
      ((s : State) (x : Step) (xs : List Step) → P s (x ∷ xs) 0 (run M s (x ∷ xs) 0)) →
      ((s : State) (x : Step) (xs : List Step) (b : ℕ) (y : RunResult) → is_open M s x ≡ true → P (after_step M s x) xs b y →
      P s (x ∷ xs) (suc b) (took_first x y)) →
      ((s : State) (x : Step) (xs : List Step) (b : ℕ) (y : RunResult) → is_open M s x ≡ false → P s xs (suc b) y →
      P s (x ∷ xs) (suc b) (skipped_first x y)) →
      (s : State) (xs : List Step) (b : ℕ) → P s xs b (run M s xs b)
  run_induction P done stop took passed s [] b = done s b
  run_induction P done stop took passed s (x ∷ xs) zero = stop s x xs
  run_induction P done stop took passed s (x ∷ xs) (suc b) =
      split (is_open M s x) refl (run_induction P done stop took passed (after_step M s x) xs b)
      (run_induction P done stop took passed s xs (suc b))
    where
      split : (y : Bool) → is_open M s x ≡ y → P (after_step M s x) xs b (run M (after_step M s x) xs b) →
          P s xs (suc b) (run M s xs (suc b)) → P s (x ∷ xs) (suc b) (run M s (x ∷ xs) (suc b))
      split true e p q = rw (run_took s x xs b e) (took s x xs b (run M (after_step M s x) xs b) e p)
      split false e p q = rw (run_skipped s x xs b e) (passed s x xs b (run M s xs (suc b)) e q)

  pub run_faithful : (s : State) (xs : List Step) (b : ℕ) → FaithfulRun M s xs b (run M s xs b)
  unfolding run took_first skipped_first Faithful steps_read steps_taken after_steps
  run_faithful =
      run_induction (FaithfulRun M)
      (λ s b. record { faithful = tt; reads = refl; leads = refl; counts = refl; within = omega arith; stops = inl refl })
      (λ s x xs. record { faithful = tt; reads = refl; leads = refl; counts = refl; within = omega arith; stops = inr refl })
      (λ s x xs b y e p.
      record {
        faithful = (e, p.faithful);
        reads = ap (λ (xs : List Step). x ∷ xs) p.reads;
        leads = p.leads;
        counts = ap suc p.counts;
        within = omega (arith, p.within);
        stops = more x y b p.stops;
      })
      (λ s x xs b y e p.
      record {
        faithful = (e, p.faithful);
        reads = ap (λ (xs : List Step). x ∷ xs) p.reads;
        leads = p.leads;
        counts = p.counts;
        within = p.within;
        stops = p.stops;
      })
    where
      more : (x : Step) (y : RunResult) (b : ℕ) → (y.unread ≡ []) ⊎ (y.taken ≡ b) → (y.unread ≡ []) ⊎ (suc y.taken ≡ suc b)
      more x y b (inl e) = inl e
      more x y b (inr e) = inr (ap suc e)
