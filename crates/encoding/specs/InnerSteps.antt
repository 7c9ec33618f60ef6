-- Inner matter: nothing claimed rests on this. What the steps do to memory, number for number, for the reference machine M that the
-- memory is a state of: the code's way to the reference machine's steps.
use Rattle.std.specs.Prelude.{ℕ, zero, suc, ◌+◌, ◌*◌, ◌-◌, Bool, false, ◌&&◌, ◌||◌, not, cond, List, [], ◌∷◌, leb, ltb, eqb, get_or}
use Rattle.laws.specs.Verdict.{Verdict, ◌then◌, demand, demand_each, passes, each}
use Rattle.laws.specs.Memory.{put, part}
use Rattle.route.specs.Route.{Answer, View}
use Rattle.records.specs.Records.{record_of, record_at, resized, moved}
use Rattle.reference.specs.Ranges.{below}
use Rattle.reference.specs.State.{Machine}
use Rattle.reference.specs.Step.{Step, plan, deliver, is_there, same_cells}
use Rattle.reference.specs.Table.{Asked, step, no_step}
use Rattle.reference.specs.Take.{StepAnswer, kept, sent, delivered}
use Rattle.encoding.specs.Places.{planned_place, due_place, answer_place, view_place, channel_place}

-- The channel from carrier i to carrier k has fewer than depth messages; a carrier that is not below i has no such channel.
unfoldable pub capacity_in : Machine → List ℕ → ℕ → ℕ → Bool
capacity_in M m i k = leb k i || ltb (get_or m (channel_place M.carriers k i) 0) M.depth

-- What a step waits for. Plan i: that i is due, then capacity in each channel from i. Deliver j to i: a message there.
unfoldable pub waits_in : Machine → List ℕ → Step → Verdict
waits_in M m (plan i) = demand (eqb (get_or m (due_place i) 0) 1) 8 0 then demand_each 13 1 (capacity_in M m i) M.carriers
waits_in M m (deliver j i) = demand (not (eqb (get_or m (channel_place M.carriers i j) 0) 0)) 12 (1 + i)

-- The step is open: it is there, and waits for nothing.
unfoldable pub open_in : Machine → List ℕ → Step → Bool
open_in M m x = is_there M x && passes (waits_in M m x)

-- What is asked for is a step that is open.
unfoldable pub asked_open_in : Machine → List ℕ → Asked → Bool
asked_open_in M m (step x) = open_in M m x
asked_open_in M m no_step = false

-- The step is not open.
unfoldable pub shut_in : Machine → List ℕ → Step → Bool
shut_in M m x = not (open_in M m x)

-- Silent: no plan is open, and no delivery from a sender to a receiver below it.
unfoldable pub silent_in : Machine → List ℕ → Bool
silent_in M m =
    each M.carriers (λ i. shut_in M m (plan i))
    && each M.carriers (λ j. each (M.carriers - suc j) (λ d. shut_in M m (deliver j (suc j + d))))

-- One more step is counted; the count stays at 999,999 once there.
unfoldable pub ticked : List ℕ → List ℕ
ticked m =
    cond
    (ltb (get_or m 1 0) 999)
    (put m 1 ((get_or m 1 0 + 1) ∷ []))
    (cond (ltb (get_or m 0 0) 999) (put m 0 ((get_or m 0 0 + 1) ∷ (0 ∷ []))) m)

-- A channel at place c without its oldest message: the others move up, the last place is cleared.
unfoldable pub shifted : List ℕ → ℕ → List ℕ
shifted m c = put (moved (moved (moved m (c + 66) (c + 1)) (c + 131) (c + 66)) (c + 196) (c + 131)) (c + 196) (resized 65 [])

unfoldable pub popped : List ℕ → ℕ → List ℕ
popped m c = put (shifted m c) c ((get_or m c 0 - 1) ∷ [])

-- The oldest message from j leaves its channel and becomes the view that i has of j; i becomes due.
unfoldable pub delivered_in : ℕ → List ℕ → ℕ → ℕ → List ℕ
delivered_in n m j i =
    put (popped (moved m (channel_place n i j + 1) (view_place n i j)) (channel_place n i j)) (due_place i) (1 ∷ [])

-- A channel at place c with a record put last; a channel has four places.
unfoldable pub pushed : List ℕ → ℕ → List ℕ → List ℕ
pushed m c rec =
    cond (ltb (get_or m c 0) 4) (put (put m (c + 1 + 65 * get_or m c 0) rec) c ((get_or m c 0 + 1) ∷ [])) m

-- A record put last on the channel from i to k, where k is below i.
unfoldable pub pushed_below : ℕ → ℕ → List ℕ → List ℕ → ℕ → List ℕ
pushed_below n i rec m k = cond (ltb i k) (pushed m (channel_place n k i) rec) m

-- A record put last on every channel from i to one of the first k carriers.
unfoldable pub sent_to : ℕ → ℕ → List ℕ → List ℕ → ℕ → List ℕ
sent_to n i rec m zero = m
sent_to n i rec m (suc k) = pushed_below n i rec (sent_to n i rec m k) k

-- A record is news from carrier i: i had not planned before, or its answer changed.
unfoldable pub news_in : List ℕ → ℕ → List ℕ → Bool
news_in m i rec = not (eqb (get_or m (planned_place i) 0) 1 && same_cells (part m (answer_place i) 65) rec)

-- Carrier i plans an answer with this record: it has planned, is no longer due, and sends the record if it is news.
unfoldable pub planned_in : ℕ → List ℕ → ℕ → List ℕ → List ℕ
planned_in n m i rec =
    cond
    (news_in m i rec)
    (sent_to n i rec (put m (planned_place i) (1 ∷ (0 ∷ rec))) n)
    (put m (planned_place i) (1 ∷ (0 ∷ rec)))

-- The views of carrier i, of the carriers above it in their order.
unfoldable pub views_in : ℕ → List ℕ → ℕ → List View
views_in n m i = below i (λ j. record_at m (view_place n i j))

-- The best answer of carrier i to its views.
unfoldable pub best_in : Machine → List ℕ → ℕ → Answer
best_in M m i = M.respond i (views_in M.carriers m i)

-- What an open step does, and the memory after it, the step being counted.
unfoldable pub effect_in : Machine → List ℕ → Step → List ℕ
effect_in M m (plan i) = planned_in M.carriers m i (record_of (best_in M m i))
effect_in M m (deliver j i) = delivered_in M.carriers m j i

unfoldable pub after_in : Machine → List ℕ → Step → List ℕ
after_in M m x = ticked (effect_in M m x)

-- The answer of an open step.
unfoldable pub step_answer_in : Machine → List ℕ → Step → StepAnswer
step_answer_in M m (plan i) = cond (news_in m i (record_of (best_in M m i))) sent kept
step_answer_in M m (deliver j i) = delivered
