-- What the two steps do, as document 01 says it ('The machine'); claims say that `after_step` does this at every open step.
use Rattle.std.specs.Prelude.{ℕ, suc, min, ◌<◌, true, false, [], ◌∷◌, ◌++◌, ◌⊎◌, ◌≡◌}
use Rattle.route.specs.Route.{Answer, heard}
use Rattle.reference.specs.State.{Machine, State, views}

-- Carrier k is the same in both states: planned, due, answer.
pub record SameCarrier (s z : State) (k : ℕ) : Type 0 where
  pub planned : z.planned k ≡ s.planned k
  pub due : z.due k ≡ s.due k
  pub answer : z.answer k ≡ s.answer k

-- Plan i leads from s to z.
pub record PlanLeads (M : Machine) (s z : State) (i : ℕ) : Type 0 where
  -- It sets the answer to the best against the heard views, clears due, sets planned.
  pub best : z.answer i ≡ M.respond i (views s i)
  pub cleared : z.due i ≡ false
  pub planned : z.planned i ≡ true
  -- If i had not planned before, or the answer changed, the new answer goes on every channel from i.
  pub sends : (s.planned i ≡ false) ⊎ (s.answer i ≡ z.answer i → ⊥) → (k : ℕ) → i < k →
      z.chan k i ≡ s.chan k i ++ (z.answer i ∷ [])
  pub keeps : s.planned i ≡ true → s.answer i ≡ z.answer i → (k : ℕ) → i < k → z.chan k i ≡ s.chan k i
  -- The step adds 1 to the count, which stays at 999,999 once there.
  pub counted : z.taken ≡ min 999999 (suc s.taken)
  -- Nothing else changes.
  pub carriers : (k : ℕ) → (k ≡ i → ⊥) → SameCarrier s z k
  pub channels : (k j : ℕ) → (j ≡ i → ⊥) → z.chan k j ≡ s.chan k j
  pub seen : (k j : ℕ) → z.view k j ≡ s.view k j

-- Deliver j to i leads from s to z.
pub record DeliverLeads (s z : State) (j i : ℕ) : Type 0 where
  -- The oldest message leaves the channel and becomes the view that i has of j; i becomes due.
  pub oldest : Answer
  pub leaves : s.chan i j ≡ oldest ∷ z.chan i j
  pub becomes : z.view i j ≡ heard oldest
  pub due : z.due i ≡ true
  -- The step adds 1 to the count, which stays at 999,999 once there.
  pub counted : z.taken ≡ min 999999 (suc s.taken)
  -- Nothing else changes.
  pub carriers : (k : ℕ) → (k ≡ i → ⊥) → SameCarrier s z k
  pub receiver : (z.planned i ≡ s.planned i) × (z.answer i ≡ s.answer i)
  pub channels : (k j' : ℕ) → (k ≡ i → ⊥) ⊎ (j' ≡ j → ⊥) → z.chan k j' ≡ s.chan k j'
  pub seen : (k j' : ℕ) → (k ≡ i → ⊥) ⊎ (j' ≡ j → ⊥) → z.view k j' ≡ s.view k j'
