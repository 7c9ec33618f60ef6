-- The state of the reference machine (document 01, 'The machine', where it is called the book) and what it is a machine of.
-- Carriers are counted from 0; j is above i if j < i. Views and channels are indexed by receiver, then sender.
use Rattle.std.specs.Prelude.{ℕ, suc, min, Bool, true, false, List, []}
use Rattle.route.specs.Route.{Answer, none, View, unheard}
use Rattle.reference.specs.Ranges.{below}

-- What the machine is given of a floor: its carriers, its channel depth, the documented needed length of its lent state, and the best
-- response of a carrier to its views.
pub record Machine : Type 0 where
  pub carriers : ℕ
  pub depth : ℕ
  pub needed : ℕ
  pub respond : ℕ → List View → Answer

-- The state: planned, due and answer of each carrier; its view of each carrier above it; a FIFO channel for each pair of a sender
-- above a receiver, oldest message first; the taken count.
pub record State : Type 0 where
  pub planned : ℕ → Bool
  pub due : ℕ → Bool
  pub answer : ℕ → Answer
  pub view : ℕ → ℕ → View
  pub chan : ℕ → ℕ → List Answer
  pub taken : ℕ

-- Fresh: all due, none planned, answers none, views not heard, channels empty, count 0.
unfoldable pub fresh : State
fresh =
    record {
      planned = λ i. false;
      due = λ i. true;
      answer = λ i. none;
      view = λ i j. unheard;
      chan = λ i j. [];
      taken = 0;
    }

-- The views of carrier i, of the carriers above it in their order.
unfoldable pub views : State → ℕ → List View
views s i = below i (s.view i)

-- The largest taken count.
abbrev pub largest_count : ℕ
largest_count = 999999

-- The taken count after one more step: it stays at the largest once there.
unfoldable pub tick : ℕ → ℕ
tick t = min largest_count (suc t)
