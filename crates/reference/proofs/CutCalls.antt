-- A run cut in two, as calls: the rest of the list, with what is left of the budget, as a later call.
use Prim.Native.Nat.{ℕ, ◌-◌, ◌≤◌}
use native.Mathlib.Omega.{arith}
use mathlib.Core.List.{List, [], ◌∷◌, ◌++◌}
use mathlib.Core.Path.{◌≡◌, refl, ◌∙◌}
use Rattle.laws.specs.Verdict.{passed}
use Rattle.laws.proofs.VerdictLaws.{then_passed}
use Rattle.reference.specs.State.{Machine, State}
use Rattle.reference.specs.Run.{run}
use Rattle.reference.specs.Table.{Asked, run_of, steps_of, all_named, verdict}
use Rattle.reference.specs.Calls.{state_after, reply, after_call, replies, after}
use Rattle.reference.specs.Quiescent.{reply_count, replies_count}
use Rattle.reference.proofs.TableLaws.{enough_lent, named_front, named_rest, steps_append}
use Rattle.reference.proofs.CutLaws.{run_cut}
use Rattle.reference.proofs.ReachLaws.{run_reply, after_passed}

module _ (M : Machine) (lent : ℕ) (enough : M.needed ≤ lent) where
  run_passes : (s : State) (xs : List Asked) (b : ℕ) → all_named M xs ≡ passed → verdict M s (run_of lent xs b) ≡ passed
  unfolding verdict
  run_passes s xs b e = then_passed (enough_lent M lent enough) ∙ e

  run_state : (s : State) (xs : List Asked) (b : ℕ) → all_named M xs ≡ passed →
      after_call M s (run_of lent xs b) ≡ (run M s (steps_of xs) b).state
  unfolding state_after
  run_state s xs b e = after_passed M s (run_of lent xs b) (run_passes s xs b e)

  run_taken : (s : State) (xs : List Asked) (b : ℕ) → all_named M xs ≡ passed →
      reply_count (reply M s (run_of lent xs b)) ≡ (run M s (steps_of xs) b).taken
  unfolding reply_count
  run_taken s xs b e = rw (run_reply M s lent xs b (run_passes s xs b e)) refl

  module _ (s : State) (xs ys : List Asked) (b : ℕ) (e : all_named M (xs ++ ys) ≡ passed) where
    abbrev budget_left : ℕ
    budget_left = b - (run M s (steps_of xs) b).taken

    pub cut_state : after M s (run_of lent (xs ++ ys) b ∷ []) ≡ after M s (run_of lent xs b ∷ run_of lent ys budget_left ∷ [])
    unfolding after
    cut_state =
        rw (
          run_state s (xs ++ ys) b e,
          run_state s xs b (named_front M xs ys e),
          run_state (run M s (steps_of xs) b).state ys budget_left (named_rest M xs ys e),
          steps_append xs ys,
        )
        (run_cut M s (steps_of xs) (steps_of ys) b).state

    pub cut_taken : replies_count (replies M s (run_of lent (xs ++ ys) b ∷ [])) ≡
        replies_count (replies M s (run_of lent xs b ∷ run_of lent ys budget_left ∷ []))
    unfolding replies replies_count
    cut_taken =
        rw (
          run_taken s (xs ++ ys) b e,
          run_taken s xs b (named_front M xs ys e),
          run_state s xs b (named_front M xs ys e),
          run_taken (run M s (steps_of xs) b).state ys budget_left (named_rest M xs ys e),
          steps_append xs ys,
        )
        (omega (arith, (run_cut M s (steps_of xs) (steps_of ys) b).taken))
