-- Inner matter: nothing claimed rests on this. What the functions of steps are proved against.
use Rattle.std.specs.Prelude.{ℕ, ◌+◌, ◌-◌, ◌≤◌, ◌<◌, Option, Some, None, Bool, ◌||◌, List, [], ◌≡◌, leb, ltb, length, get_or}
use Rattle.floor.specs.declared.Floor.{Floor}
use Rattle.floor.specs.Accepted.{Accepted}
use Rattle.search.specs.Rows.{FreeRows}
use Rattle.reference.specs.State.{Machine}
use Rattle.reference.specs.Step.{Step, plan, deliver}
use Rattle.laws.specs.Verdict.{Verdict, passed, refused, each}
use Rattle.encoding.specs.Places.{channel_place, state_size}
use Rattle.encoding.specs.Calls.{machine_of}
use Rattle.encoding.specs.InnerSteps.{shut_in, effect_in, after_in, step_answer_in}
use Rattle.steps.specs.declared.Taken.{Taken}
use Rattle.steps.specs.Answers.{taken_meant}

-- The machine of a floor as far as steps are there and open: the walls do not matter for that.
unfoldable pub bare : Floor → Machine
bare f = machine_of f []

-- Of n carriers, the channel from carrier i to carrier k has fewer than depth messages; a carrier that is not below i has no such channel.
unfoldable pub capacity_at : (n depth : ℕ) → List ℕ → ℕ → ℕ → Bool
capacity_at n depth m i k = leb k i || ltb (get_or m (channel_place n k i) 0) depth

-- The smallest carrier, of n, to which a channel is full: 13 names it; none where the test of each finds nothing.
abbrev pub FullSought : Verdict → ℕ → Option ℕ → Type 0
FullSought tested n (Some k) = (k < n) × (tested ≡ refused 13 (1 + k))
FullSought tested n None = tested ≡ passed

-- The plan of carrier i is not open; the delivery from j to the carrier d + 1 below it is not; no delivery from j is.
unfoldable pub plan_shut : Floor → List ℕ → ℕ → Bool
plan_shut f m i = shut_in (bare f) m (plan i)

unfoldable pub delivery_shut : Floor → List ℕ → ℕ → ℕ → Bool
delivery_shut f m j d = shut_in (bare f) m (deliver j (j + 1 + d))

unfoldable pub sender_shut : Floor → List ℕ → ℕ → Bool
sender_shut f m j = each (f.carriers - (j + 1)) (delivery_shut f m j)

-- What the checks of a lent place tell: an accepted floor, and as many numbers lent as its state needs.
pub record Placed (f : Floor) (ws : List ℕ) (lent : ℕ) : Type 0 where
  pub accepted : Accepted f ws
  pub enough : state_size f.carriers ≤ lent

-- A checked state, and the free cells of its floor.
pub record Workable (f : Floor) (ws rows m : List ℕ) : Type 0 where
  pub placed : Placed f ws (length m)
  pub free : FreeRows f ws rows

-- The rows are the floor's free cells where a step is a plan; a delivery needs none.
unfoldable pub RowsFor : Floor → List ℕ → List ℕ → Step → Type 0
RowsFor f ws rows (plan i) = FreeRows f ws rows
RowsFor f ws rows (deliver j i) = Unit {0}

-- What a step did: its answer, and the memory after it, the step not being counted yet.
pub record Did (M : Machine) (m : List ℕ) (x : Step) (y : Taken) (m' : List ℕ) : Type 0 where
  pub answers : taken_meant y ≡ step_answer_in M m x
  pub stores : m' ≡ effect_in M m x

-- A step that was taken: its answer, and the memory after it.
pub record Took (M : Machine) (m : List ℕ) (x : Step) (y : Taken) (m' : List ℕ) : Type 0 where
  pub answers : taken_meant y ≡ step_answer_in M m x
  pub stores : m' ≡ after_in M m x
