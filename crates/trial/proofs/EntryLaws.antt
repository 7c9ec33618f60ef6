-- What passed checks of a trial tell, what its memory is at the start and at the end, and what one more step comes to.
use Rattle.std.proofs.Common.{◌≡◌, ℕ, ◌+◌, ◌*◌, ◌<◌, ◌≤◌, List, [], ◌∷◌, ◌++◌, drop, sym, ap, ◌∙◌, zero-add, arith}
use Rattle.laws.specs.Verdict.{passed, refused, ◌then◌, demand}
use Rattle.laws.specs.Memory.{put}
use Rattle.laws.proofs.VerdictLaws.{then_both, then_assoc, then_passed, then_refused}
use Rattle.floor.specs.declared.Floor.{Floor}
use Rattle.floor.specs.Checks.{within, check_of, long_enough}
use Rattle.floor.proofs.LimitsLaws.{limited_bounds, length_passed}
use Rattle.floor.proofs.Theorems.{theorems}
use Rattle.reference.specs.State.{State, fresh}
use Rattle.reference.specs.Step.{Step}
use Rattle.reference.specs.Quiescent.{ceiling}
use Rattle.encoding.specs.Places.{state_size}
use Rattle.encoding.specs.Encode.{encode}
use Rattle.encoding.specs.Calls.{machine_of, place_verdict}
use Rattle.encoding.specs.InnerSteps.{after_in, step_answer_in}
use Rattle.encoding.proofs.StateLaws.{encode_length, encode_beyond}
use Rattle.steps.specs.Inner.{Placed}
use Rattle.steps.proofs.PlacedLaws.{placed_bounds}
use Rattle.machine.proofs.VerdictLaws.{place_tells}
use Rattle.orders.specs.Orders.{Order, round, places, step_at, remembered}
use Rattle.orders.proofs.RuleLaws.{Memory}
use Rattle.trial.specs.Report.{number_of, answer_number, report_size}
use Rattle.trial.specs.Entry.{trial_verdict}
use Rattle.trial.specs.Inner.{chosen_in, Advanced, room_verdict}

-- An accepted floor has one to eight carriers.
pub checked_carriers : (f : Floor) (ws : List ℕ) → check_of f ws ≡ passed → (1 ≤ f.carriers) × (f.carriers ≤ 8)
checked_carriers f ws h = (limited_bounds f ((theorems.passes_exactly f ws).0 h).limited).carriers

-- What passed checks tell: an accepted floor, room for its state, and room for the report.
pub record TrialGranted (f : Floor) (ws : List ℕ) (state report : ℕ) : Type 0 where
  pub checked : check_of f ws ≡ passed
  pub placed : Placed f ws state
  pub wide : report_size f.carriers ≤ report

pub trial_tells : (f : Floor) (ws : List ℕ) (state report : ℕ) → room_verdict f ws state report ≡ passed → TrialGranted f ws state report
unfolding room_verdict place_verdict
trial_tells f ws state report h =
    let a = then_both _ _ h in
    record { checked = (then_both _ _ a.0).0; placed = place_tells f ws state a.0; wide = length_passed _ _ a.1 }

-- The refusals of a trial: those of its room, then that of its order.
module _ (f : Floor) (ws : List ℕ) (order state report : ℕ) where
  parts : trial_verdict f ws order state report ≡ (room_verdict f ws state report then demand (within 1 3 order) 11 0)
  unfolding trial_verdict room_verdict
  parts =
      sym (then_assoc (place_verdict f ws state) (long_enough (report_size f.carriers) report) (demand (within 1 3 order) 11 0))

  pub room_refuses : {k p : ℕ} → room_verdict f ws state report ≡ refused k p → trial_verdict f ws order state report ≡ refused k p
  room_refuses h = parts ∙ then_refused _ h

  pub order_decides : room_verdict f ws state report ≡ passed → trial_verdict f ws order state report ≡ demand (within 1 3 order) 11 0
  order_decides h = parts ∙ then_passed h

-- The length of a report, as the code asks for it behind a check of the floor and its state that passed.
pub report_length_lem : (f : Floor) (ws : List ℕ) (state most : ℕ) → place_verdict f ws state ≡ passed
    → (1 ≤ f.carriers → f.carriers ≤ 8 → most ≡ ceiling f.carriers) × (most ≤ 512) → 2 * most ≡ report_size f.carriers
unfolding report_size
report_length_lem f ws state most v m =
    let n = (placed_bounds (place_tells f ws state v)).carriers in
    rw (m.0 n.0 n.1)

-- Line t of a report is within its needed length.
pub report_left : (n t most wide lent : ℕ) → most ≡ ceiling n → t < most → report_size n ≤ lent → wide ≡ lent → 2 * t + 2 ≤ wide
unfolding report_size
report_left n t most wide lent e l h k = omega arith

-- A number of places that is not 0.
pub some_open : {found places : ℕ} → found ≡ places → (found ≡ 0 → ⊥) → 0 < places
some_open e h = omega arith

-- A state in the front of a memory: the memory behind it stays.
module _ (n : ℕ) (m : List ℕ) where
  pub front_is : (z : State) → put m 0 (encode n z) ≡ encode n z ++ drop (state_size n) m
  unfolding put
  front_is z = rw (encode_length n z, zero-add)

  module _ (m' : List ℕ) (e : m' ≡ put m 0 (encode n fresh)) where
    front_rest : drop (state_size n) m' ≡ drop (state_size n) m
    front_rest = rw e (encode_beyond n fresh m)

    pub front_fresh : m' ≡ encode n fresh ++ drop (state_size n) m'
    front_fresh = e ∙ front_is fresh ∙ ap (λ (xs : List ℕ). encode n fresh ++ xs) (sym front_rest)

    pub front_last : (z : State) (m'' : List ℕ) → m'' ≡ encode n z ++ drop (state_size n) m' → m'' ≡ put m 0 (encode n z)
    front_last z m'' h = h ∙ ap (λ (xs : List ℕ). encode n z ++ xs) front_rest ∙ sym (front_is z)

-- Order 2 remembers a place or the end of the ranking.
pub memory_round : (f : Floor) (ws : List ℕ) (o : Order) (kept : ℕ) → Memory o (machine_of f ws) kept → o ≡ round →
    kept ≤ places f.carriers
unfolding Memory machine_of
memory_round f ws o kept h e = rw e at h

-- One more step, from what its parts come to.
pub advanced : (o : Order) (f : Floor) (ws m report : List ℕ) (kept t next : ℕ) (m' report' : List ℕ) (p : ℕ) (y : Step)
    (number answer : ℕ) →
    p ≡ chosen_in o f m kept → y ≡ step_at f.carriers p → number ≡ number_of y → answer ≡ answer_number (step_answer_in (machine_of f ws) m y) →
    next ≡ remembered o kept p → m' ≡ after_in (machine_of f ws) m y → report' ≡ put report (2 * t) (number ∷ (answer ∷ [])) →
    Advanced o f ws m report kept t next m' report'
advanced o f ws m report kept t next m' report' p y number answer place step num ans mem stored line =
    let same : y ≡ step_at f.carriers (chosen_in o f m kept) = step ∙ ap (step_at f.carriers) place in
    record {
      remembers = mem ∙ ap (remembered o kept) place;
      stores = stored ∙ ap (after_in (machine_of f ws) m) same;
      reports = line
          ∙ ap (λ (k : ℕ). put report (2 * t) (k ∷ (answer ∷ []))) num
          ∙ ap (λ (k : ℕ). put report (2 * t) (number_of y ∷ (k ∷ []))) ans
          ∙ ap (λ (z : Step). put report (2 * t) (number_of z ∷ (answer_number (step_answer_in (machine_of f ws) m z) ∷ []))) same;
    }
