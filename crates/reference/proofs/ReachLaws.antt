-- A list of calls reaches its last state by open steps, as many as its answers tell of.
use Prim.Native.Nat.{ℕ, suc, ◌+◌}
use native.Mathlib.Omega.{arith}
use mathlib.Core.List.{List, [], ◌∷◌, ◌++◌}
use mathlib.Core.Path.{◌≡◌, refl}
use Rattle.laws.specs.Verdict.{Verdict, passed, refused, ◌then◌, Outcome, value, refusal, ◌gives◌, ◌then_answers◌, when_passed}
use Rattle.laws.proofs.VerdictLaws.{refused_same, refused_not_passed, then_both}
use Rattle.reference.specs.State.{Machine, State}
use Rattle.reference.specs.Step.{Step}
use Rattle.reference.specs.Run.{took_first, skipped_first, run}
use Rattle.reference.specs.Ending.{ending}
use Rattle.reference.specs.History.{Reachable, stay, next}
use Rattle.reference.specs.Table.{Asked, step, no_step, Call, single, run_of, steps_of, lent_enough, open_single, verdict}
use Rattle.reference.specs.Calls.{CallAnswer, state_after, ran, reply, after_call, replies, after}
use Rattle.reference.specs.Quiescent.{reply_count, replies_count}
use Rattle.reference.proofs.RunLaws.{run_induction}
use Rattle.reference.proofs.TableLaws.{single_open}

module _ (M : Machine) where
  pub reaches_join : {s y z : State} {t u : ℕ} → Reachable M s y t → Reachable M y z u → Reachable M s z (t + u)
  reaches_join {u = u} stay q = let none : 0 + u ≡ u = omega arith in rw none q
  reaches_join {u = u} (next {t = t} x e p) q =
      let more : suc t + u ≡ suc (t + u) = omega arith in rw more (next x e (reaches_join p q))

  pub run_reaches : (s : State) (xs : List Step) (b : ℕ) → Reachable M s (run M s xs b).state (run M s xs b).taken
  unfolding run took_first skipped_first
  run_reaches =
      run_induction M (λ s xs b y. Reachable M s y.state y.taken) (λ s b. stay) (λ s x xs. stay) (λ s x xs b y e p. next x e p)
      (λ s x xs b y e p. p)

  -- What names no kind of step is refused with 9 or 7.
  unnamed : (x : Verdict) (k p : ℕ) → (x then refused 7 0) ≡ refused k p
      → ◌≡◌ {A = Outcome CallAnswer} (x then_answers refusal 7 0) (refusal k p)
  unfolding ◌then◌ ◌then_answers◌
  unnamed passed k p h = let q = refused_same h in rw (q.0, q.1)
  unnamed (refused k' p') k p h = let q = refused_same h in rw (q.0, q.1)

  pub after_passed : (s : State) (x : Call) → verdict M s x ≡ passed → after_call M s x ≡ state_after M s x
  unfolding after_call when_passed
  after_passed s x e = rw e

  after_refused : (s : State) (x : Call) (k p : ℕ) → verdict M s x ≡ refused k p → after_call M s x ≡ s
  unfolding after_call when_passed
  after_refused s x k p e = rw e

  -- A refused call counts no step.
  reply_refused : (s : State) (y : Call) (k p : ℕ) → verdict M s y ≡ refused k p → reply M s y ≡ refusal k p
  unfolding reply ◌gives◌ verdict open_single
  reply_refused s (single lent (step x)) k p e = rw e
  reply_refused s (run_of lent xs b) k p e = rw e
  reply_refused s (single lent no_step) k p e = unnamed (lent_enough M lent) k p e

  pub run_reply : (s : State) (lent : ℕ) (xs : List Asked) (b : ℕ) → verdict M s (run_of lent xs b) ≡ passed →
      reply M s (run_of lent xs b) ≡ value (ran (run M s (steps_of xs) b).taken (ending M b (run M s (steps_of xs) b)))
  unfolding reply ◌gives◌
  run_reply s lent xs b e = rw e

  passed_reaches : (s : State) (y : Call) → verdict M s y ≡ passed → Reachable M s (state_after M s y) (reply_count (reply M s y))
  unfolding state_after reply reply_count ◌gives◌ verdict open_single
  passed_reaches s (single lent (step x)) e = rw e (next x (single_open M s lent x e) stay)
  passed_reaches s (single lent no_step) e = absurd (refused_not_passed (then_both (lent_enough M lent) (refused 7 0) e).1)
  passed_reaches s (run_of lent xs b) e = rw e (run_reaches s (steps_of xs) b)

  pub call_reaches : (s : State) (x : Call) → Reachable M s (after_call M s x) (reply_count (reply M s x))
  unfolding reply_count
  call_reaches s x = go (verdict M s x) refl
    where
      go : (y : Verdict) → verdict M s x ≡ y → Reachable M s (after_call M s x) (reply_count (reply M s x))
      go passed e = rw (after_passed s x e) (passed_reaches s x e)
      go (refused a p) e = rw (reply_refused s x a p e, after_refused s x a p e) stay

  pub calls_reach : (s : State) (xs : List Call) → Reachable M s (after M s xs) (replies_count (replies M s xs))
  unfolding after replies replies_count
  calls_reach s [] = stay
  calls_reach s (x ∷ xs) = reaches_join (call_reaches s x) (calls_reach (after_call M s x) xs)

  pub after_join : (s : State) (xs ys : List Call) → after M s (xs ++ ys) ≡ after M (after M s xs) ys
  unfolding after
  after_join s [] ys = refl
  after_join s (x ∷ xs) ys = after_join (after_call M s x) xs ys
