-- Machines that differ only in the responses of carriers that are not there, or to lists of views that no carrier has, give the same
-- answers and the same states.
use Prim.Native.Nat.{ℕ, zero, suc, ◌<◌}
use native.Mathlib.Omega.{arith}
use mathlib.Core.Bool.{true, false}
use mathlib.Core.List.{List, [], ◌∷◌}
use mathlib.Core.Logic.{◌⊎◌, inl, inr}
use mathlib.Core.Path.{◌≡◌, refl, sym, ◌∙◌, ap}
use lib.ListN.{length, get_or, length-append}
use Rattle.laws.specs.Verdict.{Verdict, passed, ◌gives◌, when_passed}
use Rattle.laws.proofs.VerdictLaws.{demand_same, gives_same, when_same}
use Rattle.route.specs.Route.{Answer, View}
use Rattle.reference.specs.Ranges.{below}
use Rattle.reference.specs.State.{Machine, State, views}
use Rattle.reference.specs.Step.{Step, plan, deliver, is_there, has_capacity, waits_for, is_open}
use Rattle.reference.specs.Ranking.{ranking, none_open, is_silent}
use Rattle.reference.specs.Take.{effect, after_step, step_answer}
use Rattle.reference.specs.Run.{RunResult, run, took_first, skipped_first}
use Rattle.reference.specs.Ending.{ending}
use Rattle.reference.specs.Table.{Asked, step, no_step, is_named, steps_of, Call, single, run_of, lent_enough, all_named, open_single}
use Rattle.reference.specs.Table.{verdict}
use Rattle.reference.specs.Calls.{stepped, reply, state_after, after_call}
use Rattle.reference.proofs.OpenLaws.{plan_within}
use Rattle.reference.proofs.RunLaws.{run_took, run_skipped}
use Rattle.reference.proofs.TableLaws.{single_open}
use Rattle.laws.proofs.Tests.{true_or_false}

below_length : {A : Type 0} (k : ℕ) (φ : ℕ → A) → length (below k φ) ≡ k
unfolding below
below_length zero φ = refl
below_length (suc k) φ = length-append (below k φ) (φ k ∷ []) ∙ omega (arith, below_length k φ)

-- A carrier has a view of each carrier above it.
views_count : (s : State) (i : ℕ) → length (views s i) ≡ i
unfolding views
views_count s i = below_length i (s.view i)

module _ (n d k : ℕ) (φ ψ : ℕ → List View → Answer) (agree : (i : ℕ) (vs : List View) → i < n → length vs ≡ i → φ i vs ≡ ψ i vs) where
  abbrev M : Machine
  M = record { carriers = n; depth = d; needed = k; respond = φ }

  abbrev N : Machine
  N = record { carriers = n; depth = d; needed = k; respond = ψ }

  there_same : (x : Step) → is_there M x ≡ is_there N x
  unfolding is_there
  there_same (plan i) = refl
  there_same (deliver j i) = refl

  waits_same : (s : State) (x : Step) → waits_for M s x ≡ waits_for N s x
  unfolding waits_for has_capacity
  waits_same s (plan i) = refl
  waits_same s (deliver j i) = refl

  pub open_same : (s : State) (x : Step) → is_open M s x ≡ is_open N s x
  unfolding is_open
  open_same s x = rw (there_same x, waits_same s x)

  effect_same : (s : State) (x : Step) → is_open M s x ≡ true → effect M s x ≡ effect N s x
  unfolding effect
  effect_same s (plan i) o = rw (agree i (views s i) (plan_within M s i o) (views_count s i))
  effect_same s (deliver j i) o = refl

  pub after_same : (s : State) (x : Step) → is_open M s x ≡ true → after_step M s x ≡ after_step N s x
  unfolding after_step
  after_same s x o = rw (effect_same s x o)

  pub answer_same : (s : State) (x : Step) → is_open M s x ≡ true → step_answer M s x ≡ step_answer N s x
  unfolding step_answer
  answer_same s (plan i) o = rw (agree i (views s i) (plan_within M s i o) (views_count s i), step_answer)
  answer_same s (deliver j i) o = refl

  -- One step read: taken by both, or passed over by both.
  step_same : (s : State) (x : Step) (xs : List Step) (b : ℕ) → ((z : State) → run M z xs b ≡ run N z xs b) →
      run M s xs (suc b) ≡ run N s xs (suc b)
      → (is_open M s x ≡ true) ⊎ (is_open M s x ≡ false) → run M s (x ∷ xs) (suc b) ≡ run N s (x ∷ xs) (suc b)
  step_same s x xs b took skipped (inl o) =
      run_took M s x xs b o
      ∙ ap (took_first x) (ap (λ (z : State). run M z xs b) (after_same s x o) ∙ took (after_step N s x))
      ∙ sym (run_took N s x xs b (sym (open_same s x) ∙ o))
  step_same s x xs b took skipped (inr o) =
      run_skipped M s x xs b o ∙ ap (skipped_first x) skipped ∙ sym (run_skipped N s x xs b (sym (open_same s x) ∙ o))

  run_same : (s : State) (xs : List Step) (b : ℕ) → run M s xs b ≡ run N s xs b
  unfolding run
  run_same s [] b = refl
  run_same s (x ∷ xs) zero = refl
  run_same s (x ∷ xs) (suc b) =
      step_same s x xs b (λ z. run_same z xs b) (run_same s xs (suc b)) (true_or_false (is_open M s x))

  pub none_same : (s : State) (xs : List Step) → none_open M s xs ≡ none_open N s xs
  unfolding none_open
  none_same s [] = refl
  none_same s (x ∷ xs) = rw (open_same s x, none_same s xs)

  ending_same : (b : ℕ) (x : RunResult) → ending M b x ≡ ending N b x
  unfolding ending is_silent
  ending_same b x = rw (none_same x.state (ranking n))

  named_same : (y : Asked) → is_named M y ≡ is_named N y
  unfolding is_named
  named_same (step x) = there_same x
  named_same no_step = refl

  verdict_same : (s : State) (y : Call) → verdict M s y ≡ verdict N s y
  unfolding verdict lent_enough open_single all_named
  verdict_same s (single lent (step x)) = rw (there_same x, waits_same s x)
  verdict_same s (single lent no_step) = refl
  verdict_same s (run_of lent xs b) = rw (demand_same 7 0 _ _ (length xs) (λ i l. named_same (get_or xs i no_step)))

  -- What is told and what is left of a call that is let through.
  let_through : (s : State) (y : Call) → verdict M s y ≡ passed → state_after M s y ≡ state_after N s y
  unfolding state_after
  let_through s (single lent (step x)) e = after_same s x (single_open M s lent x e)
  let_through s (single lent no_step) e = refl
  let_through s (run_of lent xs b) e = ap (λ (x : RunResult). x.state) (run_same s (steps_of xs) b)

  pub after_call_same : (s : State) (x : Call) → after_call M s x ≡ after_call N s x
  unfolding after_call
  after_call_same s x =
      when_same (verdict M s x) (state_after M s x) (state_after N s x) s (let_through s x)
      ∙ ap (λ (y : Verdict). when_passed y (state_after N s x) s) (verdict_same s x)

  pub reply_same : (s : State) (y : Call) → reply M s y ≡ reply N s y
  unfolding reply lent_enough
  reply_same s (single lent (step x)) =
      gives_same (verdict M s (single lent (step x))) _ _ (λ e. ap stepped (answer_same s x (single_open M s lent x e)))
      ∙ ap (λ (y : Verdict). y gives stepped (step_answer N s x)) (verdict_same s (single lent (step x)))
  reply_same s (single lent no_step) = refl
  reply_same s (run_of lent xs b) =
      rw (verdict_same s (run_of lent xs b), run_same s (steps_of xs) b, ending_same b (run N s (steps_of xs) b))
