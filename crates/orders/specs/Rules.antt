-- What the three orders may take, in the words of document 02's slip 1.
use Rattle.std.specs.Prelude.{ℕ, ◌%◌, ◌≤◌, ◌<◌, true, false, List, [], ◌∷◌, ◌≡◌, length, get_or}
use Rattle.reference.specs.State.{Machine, State}
use Rattle.reference.specs.Step.{Step, is_open}
use Rattle.reference.specs.Take.{after_step, step_answer}
use Rattle.orders.specs.Generator.{drawn_by}
use Rattle.orders.specs.Orders.{Order, first, round, drawn, places, step_at, open_at, open_places, remembered}
use Rattle.orders.specs.Trial.{Entry}

-- The steps at places a to b − 1 are not open.
abbrev pub ShutFrom : Machine → State → ℕ → ℕ → Type 0
ShutFrom M s a b = (p : ℕ) → a ≤ p → p < b → open_at M s p ≡ false

-- Going round the ranking from place kept, the step at place p is the first that is open: before it come the places from kept up to p, or,
-- where p is before kept, those from kept to the end and then those from the top up to p.
pub data FirstRound (M : Machine) (s : State) (kept p : ℕ) : Type 0 where
  onward : kept ≤ p → ShutFrom M s kept p → FirstRound M s kept p
  around : p < kept → ShutFrom M s kept (places M.carriers) → ShutFrom M s 0 p → FirstRound M s kept p

-- An order that remembers the number kept may take place p. Order 1: the first open one. Order 2: the first open one going round. Order 3:
-- with n open ones, the one at the drawn number modulo n.
unfoldable pub MayTake : Order → Machine → State → ℕ → ℕ → Type 0
MayTake first M s kept p = ShutFrom M s 0 p
MayTake round M s kept p = FirstRound M s kept p
MayTake drawn M s kept p = p ≡ get_or (open_places M s) (drawn_by kept % length (open_places M s)) 0

-- A line of the report is that of a step, open when it was taken, at a place that the order may take; with the machine's answer.
pub record TakenBy (o : Order) (M : Machine) (kept : ℕ) (s : State) (x : Entry) (p : ℕ) : Type 0 where
  pub listed : p < places M.carriers
  pub step : x.taken ≡ step_at M.carriers p
  pub is_open : is_open M s x.taken ≡ true
  pub rule : MayTake o M s kept p
  pub answer : x.answer ≡ step_answer M s x.taken

-- From state s on, each line of a report is that of a step that the order takes, which remembers the number kept at first.
unfoldable pub FollowsOrder : Order → Machine → ℕ → State → List Entry → Type 0
FollowsOrder o M kept s [] = Unit {0}
FollowsOrder o M kept s (x ∷ xs) = (p : ℕ) × TakenBy o M kept s x p × FollowsOrder o M (remembered o kept p) (after_step M s x.taken) xs

-- From state s on, step x is open each time that a step of the list is taken, and is not taken itself.
unfoldable pub PassedOver : Machine → Step → State → List Step → Type 0
PassedOver M x s [] = Unit {0}
PassedOver M x s (y ∷ ys) = (is_open M s x ≡ true) × (y ≡ x → ⊥) × PassedOver M x (after_step M s y) ys
