-- The claims, proved.
use Prim.Native.Nat.{ℕ, ◌≤◌, ◌<◌}
use mathlib.Core.Bool.{true, false}
use mathlib.Core.List.{List, [], ◌++◌}
use mathlib.Core.Logic.{◌⊎◌, inl, inr, ⊎_elim, ◌↔◌}
use mathlib.Core.Path.{◌≡◌, sym, ◌∙◌}
use lib.ListN.{length, take}
use Rattle.route.specs.Sequential.{sequential}
use Rattle.laws.proofs.Tests.{true_or_false, same_test, false_fails, not_true_is_false}
use Rattle.reference.specs.Ranges.{below}
use Rattle.reference.specs.State.{Machine, State, fresh}
use Rattle.reference.specs.Step.{Step, plan, deliver, is_open, is_empty}
use Rattle.reference.specs.Ranking.{is_silent}
use Rattle.reference.specs.Table.{Call}
use Rattle.reference.specs.Calls.{after}
use Rattle.reference.specs.Quiescent.{idle, quiescent}
use Rattle.reference.specs.StepClaims.{StepClaims}
use Rattle.reference.specs.CallClaims.{CallClaims}
use Rattle.reference.specs.Claims.{Claims}
use Rattle.reference.proofs.RangeLaws.{below_same}
use Rattle.reference.proofs.OpenLaws.{empty_nil, nil_empty, plan_within, plan_due, plan_capacity, plan_open}
use Rattle.reference.proofs.OpenLaws.{deliver_above, deliver_within, deliver_full, deliver_open}
use Rattle.reference.proofs.RunLaws.{run_faithful}
use Rattle.reference.proofs.CutLaws.{run_cut, cut_ending}
use Rattle.reference.proofs.ReachLaws.{calls_reach, after_join}
use Rattle.reference.proofs.TableLaws.{single_open}
use Rattle.reference.proofs.CountLaws.{calls_count}
use Rattle.reference.proofs.RankingLaws.{shut_silent, silent_shut, some_open}
use Rattle.reference.proofs.QuiescentLaws.{idle_says, idle_holds, idle_shut, shut_idle}
use Rattle.reference.proofs.Invariant.{fresh_coherent, reaches_coherent}
use Rattle.reference.proofs.SequentialLaws.{sequential_prefix}
use Rattle.reference.proofs.PrefixLaws.{quiescent_sequential, reaches_quiescence}
use Rattle.reference.proofs.CeilingLaws.{calls_ceiling}
use Rattle.reference.proofs.EffectLaws.{plan_does, deliver_does}
use Rattle.reference.proofs.EndingLaws.{ending_silent, ending_spent, fresh_not_silent}
use Rattle.reference.proofs.CutCalls.{cut_state, cut_taken}
use Rattle.reference.proofs.BoundLaws.{fresh_in_range, reaches_in_range}
use Rattle.reference.proofs.ThroughLaws.{fresh_throughout, reaches_throughout}
use Rattle.reference.proofs.RefusedLaws.{waits_exactly, open_exactly, refuses_exactly}
use Rattle.reference.proofs.ExchangeLaws.{meeting_claims}

module _ (M : Machine) where
  pub silent_idle : (s : State) → 1 ≤ M.depth → is_silent M s ≡ idle M.carriers s
  silent_idle s d =
      same_test (is_silent M s) (idle M.carriers s)
      (λ e. idle_holds M.carriers s (shut_idle M s d (silent_shut M s e)))
      (λ e. shut_silent M s (idle_shut M s (idle_says M.carriers s e)))

  progress : (s : State) → 1 ≤ M.depth → ((x : Step) × (is_open M s x ≡ true)) ⊎ (idle M.carriers s ≡ true)
  progress s d =
      ⊎_elim (λ (e : is_silent M s ≡ true). inr (sym (silent_idle s d) ∙ e)) (λ (e : is_silent M s ≡ false). inl (some_open M s e))
      (true_or_false (is_silent M s))

  quiescent_answers : (xs : List Call) (k : ℕ) → k ≤ M.carriers → quiescent k (after M fresh xs) ≡ true →
      below k (after M fresh xs).answer ≡ take k (sequential M.respond M.carriers)
  unfolding quiescent
  quiescent_answers xs k l e =
      quiescent_sequential M z (reaches_coherent M (fresh_coherent M) (calls_reach M fresh xs)) k (idle_says k z e)
      ∙ sym (sequential_prefix M.respond k M.carriers l)
    where
      z : State
      z = after M fresh xs

  quiescent_answers_stay : (xs ys : List Call) (k : ℕ) → quiescent k (after M fresh xs) ≡ true →
      below k (after M fresh (xs ++ ys)).answer ≡ below k (after M fresh xs).answer
  unfolding quiescent
  quiescent_answers_stay xs ys k e =
      let s = after M fresh xs in
      let z = after M s ys in
      rw (after_join M fresh xs ys)
      (below_same k z.answer s.answer (reaches_quiescence M k (idle_says k s e) (calls_reach M s ys)).1)

-- What openness means.
module _ (M : Machine) (s : State) where
  plan_exactly : (i : ℕ) → (is_open M s (plan i) ≡ true) ↔
      ((i < M.carriers) × (s.due i ≡ true) × ((k : ℕ) → i < k → k < M.carriers → length (s.chan k i) < M.depth))
  plan_exactly i = (
    λ o. (plan_within M s i o, plan_due M s i o, λ k l h. plan_capacity M s i k o l h),
    λ h. plan_open M s i h.0 h.1 h.2,
  )

  deliver_exactly : (j i : ℕ) → (is_open M s (deliver j i) ≡ true) ↔ ((j < i) × (i < M.carriers) × (s.chan i j ≡ [] → ⊥))
  deliver_exactly j i = (
    λ o. (deliver_above M s j i o, deliver_within M s j i o, λ e. false_fails (deliver_full M s j i o) (nil_empty (s.chan i j) e)),
    λ h. deliver_open M s j i h.0 h.1 (not_true_is_false (is_empty (s.chan i j)) (λ e. h.2 (empty_nil (s.chan i j) e))),
  )

step_claims : StepClaims
step_claims =
    record {
      plan_open = plan_exactly;
      deliver_open = deliver_exactly;
      waits_exactly = waits_exactly;
      open_exactly = open_exactly;
      plan_does = plan_does;
      deliver_does = deliver_does;
      silent_exactly = λ M s. (silent_shut M s, shut_silent M s);
      progress = progress;
      silent_idle = silent_idle;
      fresh_not_silent = fresh_not_silent;
      run_faithful = run_faithful;
      ending_silent = ending_silent;
      ending_spent = ending_spent;
      run_cut = run_cut;
      cut_ending = cut_ending;
    }

call_claims : CallClaims
call_claims =
    record {
      refuses_exactly = refuses_exactly;
      single_open = single_open;
      calls_reach = calls_reach;
      count_told = calls_count;
      ceiling_holds = calls_ceiling;
      cut_state = cut_state;
      cut_taken = cut_taken;
      quiescent_answers = quiescent_answers;
      quiescent_answers_stay = quiescent_answers_stay;
      calls_in_range = λ M xs. reaches_in_range M (fresh_in_range M) (calls_reach M fresh xs);
      calls_throughout = λ M P p best xs. reaches_throughout M.carriers P M best (fresh_throughout M.carriers P p)
          (calls_reach M fresh xs);
    }

pub theorems : Claims
theorems = record { steps = step_claims; calls = call_claims; meetings = meeting_claims step_claims }
