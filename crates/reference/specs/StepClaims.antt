-- What is claimed of steps and runs, one field a claim, for any number of carriers, any best response, and any depth, at least 1 where
-- it matters.
use Rattle.std.specs.Prelude.{ℕ, ◌-◌, ◌≤◌, ◌<◌, true, false, List, [], ◌++◌, ◌⊎◌, ◌↔◌, ◌≡◌, length}
use Rattle.reference.specs.State.{Machine, State, fresh}
use Rattle.laws.specs.Verdict.{refused}
use Rattle.reference.specs.Step.{Step, plan, deliver, is_there, waits_for, is_open}
use Rattle.reference.specs.Take.{after_step}
use Rattle.reference.specs.Effects.{PlanLeads, DeliverLeads}
use Rattle.reference.specs.Run.{RunResult, run}
use Rattle.reference.specs.Ranking.{is_silent}
use Rattle.reference.specs.Ending.{silent, spent, ending}
use Rattle.reference.specs.History.{FaithfulRun, RunsJoined}
use Rattle.reference.specs.Refused.{Waits}
use Rattle.reference.specs.Quiescent.{idle}

pub record StepClaims : Type 0 where
  -- Plan i is open exactly if i is due and every channel from i has fewer than depth messages; a delivery exactly if a message is there.
  pub plan_open : (M : Machine) (s : State) (i : ℕ) → (is_open M s (plan i) ≡ true) ↔
      ((i < M.carriers) × (s.due i ≡ true) × ((k : ℕ) → i < k → k < M.carriers → length (s.chan k i) < M.depth))
  pub deliver_open : (M : Machine) (s : State) (j i : ℕ) → (is_open M s (deliver j i) ≡ true) ↔
      ((j < i) × (i < M.carriers) × (s.chan i j ≡ [] → ⊥))
  -- A step waits for a thing exactly under the condition of its row, with its number and place; it is open exactly if it is there and no
  -- row holds.
  pub waits_exactly : (M : Machine) (s : State) (x : Step) (k p : ℕ) → (waits_for M s x ≡ refused k p) ↔ Waits M s x k p
  pub open_exactly : (M : Machine) (s : State) (x : Step) → (is_open M s x ≡ true) ↔
      ((is_there M x ≡ true) × ((k p : ℕ) → Waits M s x k p → ⊥))
  -- The steps do what document 01 says, and nothing else changes.
  pub plan_does : (M : Machine) (s : State) (i : ℕ) → PlanLeads M s (after_step M s (plan i)) i
  pub deliver_does : (M : Machine) (s : State) (j i : ℕ) → is_open M s (deliver j i) ≡ true
      → DeliverLeads s (after_step M s (deliver j i)) j i
  -- Silent is said exactly if no step is open.
  pub silent_exactly : (M : Machine) (s : State) → (is_silent M s ≡ true) ↔ ((x : Step) → is_open M s x ≡ false)
  -- Some step is open, or nobody is due and nothing is under way.
  pub progress : (M : Machine) (s : State) → 1 ≤ M.depth →
      ((x : Step) × (is_open M s x ≡ true)) ⊎ (idle M.carriers s ≡ true)
  -- The machine is silent exactly if nobody is due and nothing is under way.
  pub silent_idle : (M : Machine) (s : State) → 1 ≤ M.depth → is_silent M s ≡ idle M.carriers s
  -- A fresh state is not silent.
  pub fresh_not_silent : (M : Machine) → 1 ≤ M.carriers → 1 ≤ M.depth → is_silent M fresh ≡ false
  -- Every step that a run took was open, no open step was passed over, and the number taken is the length of its history of taken
  -- steps, never above the budget.
  pub run_faithful : (M : Machine) (s : State) (xs : List Step) (b : ℕ) → FaithfulRun M s xs b (run M s xs b)
  -- A run ends silent exactly if no step is open then, and spent exactly if one is, taken equals the budget and unread steps are left.
  pub ending_silent : (M : Machine) (b : ℕ) (x : RunResult) → (ending M b x ≡ silent) ↔ (is_silent M x.state ≡ true)
  pub ending_spent : (M : Machine) (b : ℕ) (x : RunResult) →
      (ending M b x ≡ spent) ↔ ((is_silent M x.state ≡ false) × (x.taken ≡ b) × (x.unread ≡ [] → ⊥))
  -- A run cut in two is the run of the first part and then the run of the rest with what is left of the budget.
  pub run_cut : (M : Machine) (s : State) (xs ys : List Step) (b : ℕ) →
      RunsJoined (run M s (xs ++ ys) b) (run M s xs b) (run M (run M s xs b).state ys (b - (run M s xs b).taken))
  -- Where the first part is read to its end, the whole run ends as the second one does.
  pub cut_ending : (M : Machine) (s : State) (xs ys : List Step) (b : ℕ) → (run M s xs b).unread ≡ [] →
      ending M b (run M s (xs ++ ys) b) ≡ ending M (b - (run M s xs b).taken) (run M (run M s xs b).state ys (b - (run M s xs b).taken))
