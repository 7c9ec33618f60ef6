-- The simulation of a run: on the memory of a state it takes as many steps, leaves as many unread, and leaves the memory of the
-- reference machine's last state.
use Prim.Native.Nat.{ℕ, suc}
use mathlib.Core.Bool.{true, false}
use mathlib.Core.List.{List, ◌∷◌, ◌++◌, map}
use mathlib.Core.Path.{◌≡◌, refl, ap, ◌∙◌}
use Rattle.records.proofs.RecordLaws.{Whole}
use Rattle.reference.specs.State.{Machine, State}
use Rattle.reference.specs.Step.{Step, is_open}
use Rattle.reference.specs.Take.{after_step}
use Rattle.reference.specs.Table.{Asked, step}
use Rattle.reference.specs.Run.{RunResult, took_first, skipped_first, run}
use Rattle.reference.specs.Ending.{any_left, ending}
use Rattle.reference.specs.Bounds.{InRange, Throughout}
use Rattle.reference.proofs.BoundLaws.{step_in_range}
use Rattle.reference.proofs.ThroughLaws.{step_throughout}
use Rattle.reference.proofs.RunLaws.{run_induction}
use Rattle.encoding.specs.Encode.{encode}
use Rattle.encoding.specs.InnerSteps.{asked_open_in}
use Rattle.encoding.specs.InnerRuns.{RanIn, took_one, asked_after_in, run_in, ending_in}
use Rattle.encoding.proofs.OpenLaws.{open_same, silent_same}
use Rattle.encoding.proofs.StepLaws.{Storable, after_same}

-- A run over memory and a run of the reference machine with n carriers come to the same.
pub record RunSimulated (n : ℕ) (rest : List ℕ) (x : RanIn) (y : RunResult) : Type 0 where
  pub memory : x.memory ≡ encode n y.state ++ rest
  pub taken : x.taken ≡ y.taken
  pub left : x.left ≡ any_left y.unread

module _ (M : Machine) (m : List ℕ) (x : Asked) (xs : List Asked) (b : ℕ) where
  pub took_in : asked_open_in M m x ≡ true → run_in M m (x ∷ xs) (suc b) ≡ took_one (run_in M (asked_after_in M m x) xs b)
  unfolding run_in
  took_in e = rw (e, run_in)

  pub skipped_in : asked_open_in M m x ≡ false → run_in M m (x ∷ xs) (suc b) ≡ run_in M m xs (suc b)
  unfolding run_in
  skipped_in e = rw (e, run_in)

module _ (M : Machine) (storable : Storable M) (rest : List ℕ) where
  -- The memory of a state, and what is proved of a run from it.
  abbrev encoded_with : State → List ℕ
  encoded_with s = encode M.carriers s ++ rest

  abbrev RunFollows : State → List Step → ℕ → RunResult → Type 0
  RunFollows s xs b x =
      InRange M s → Throughout M.carriers Whole s → RunSimulated M.carriers rest (run_in M (encoded_with s) (map step xs) b) x

  follows_took : (s : State) (x : Step) (xs : List Step) (b : ℕ) (y : RunResult) → is_open M s x ≡ true →
      RunFollows (after_step M s x) xs b y →
      RunFollows s (x ∷ xs) (suc b) (took_first x y)
  unfolding asked_open_in asked_after_in took_one took_first
  follows_took s x xs b y e h range whole =
      let r = h (step_in_range M s range x e) (step_throughout M.carriers Whole M storable.whole s whole x) in
      rw (took_in M (encoded_with s) (step x) (map step xs) b (open_same M s rest x ∙ e), after_same M storable s range whole rest x e)
      (record { memory = r.memory; taken = ap suc r.taken; left = r.left })

  follows_skipped : (s : State) (x : Step) (xs : List Step) (b : ℕ) (y : RunResult) → is_open M s x ≡ false → RunFollows s xs (suc b) y →
      RunFollows s (x ∷ xs) (suc b) (skipped_first x y)
  unfolding asked_open_in skipped_first
  follows_skipped s x xs b y e h range whole =
      let r = h range whole in
      rw (skipped_in M (encoded_with s) (step x) (map step xs) b (open_same M s rest x ∙ e))
      (record { memory = r.memory; taken = r.taken; left = r.left })

  pub run_same : (s : State) (xs : List Step) (b : ℕ) → InRange M s → Throughout M.carriers Whole s →
      RunSimulated M.carriers rest (run_in M (encoded_with s) (map step xs) b) (run M s xs b)
  unfolding run_in run any_left
  run_same =
      run_induction M RunFollows
      (λ s b range whole. record { memory = refl; taken = refl; left = refl })
      (λ s x xs range whole. record { memory = refl; taken = refl; left = refl })
      follows_took follows_skipped

  -- It ends alike.
  pub ending_same : (s : State) (xs : List Step) (b : ℕ) → InRange M s → Throughout M.carriers Whole s →
      ending_in M b (run_in M (encoded_with s) (map step xs) b) ≡ ending M b (run M s xs b)
  unfolding ending_in ending
  ending_same s xs b range whole =
      let r = run_same s xs b range whole in
      rw (r.taken, r.memory, r.left, silent_same M (run M s xs b).state rest)
