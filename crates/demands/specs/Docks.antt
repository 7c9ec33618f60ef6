-- Several docks (document 02, slip 10): one dock gives document 01's answers on every floor that document 01 accepts, from every entry; the
-- order of docks changes no answer; and what several docks answer is told by what each of them answers alone. Carriers count from 0.
use Rattle.std.specs.Prelude.{ℕ, ◌+◌, ◌<◌, true, List, map, ◌↔◌, ◌≡◌, length, get_or, take}
use Rattle.laws.specs.Verdict.{passed, refused}
use Rattle.floor.specs.declared.Floor.{Floor}
use Rattle.floor.specs.Checks.{among, check_of}
use Rattle.floor.specs.Accepted.{SameDocks}
use Rattle.floor.specs.OneDock.{OneDockFloor, earlier_check, with_one_dock}
use Rattle.route.specs.Route.{Answer, View, heard}
use Rattle.route.specs.OneGoal.{BestTo}
use Rattle.route.specs.Sequential.{sequential}
use Rattle.records.specs.Seen.{seen}
use Rattle.search.specs.Task.{task_of}
use Rattle.planner.specs.Plan.{plan_of}
use Rattle.planner.specs.DocksClaims.{DocksClaims}
use Rattle.blockers.specs.Blockers.{left_after, set_of, blockers_of}
use Rattle.reference.specs.State.{Machine, State, fresh}
use Rattle.reference.specs.Table.{Call}
use Rattle.reference.specs.Calls.{reply, after_call}
use Rattle.encoding.specs.Places.{state_size}
use Rattle.encoding.specs.Calls.{machine_of}
use Rattle.orders.specs.Orders.{Order}
use Rattle.orders.specs.Trial.{trial}
use Rattle.listing.specs.Runs.{runs_of, run_at, report_from}
use Rattle.demands.specs.Demand2.{SameOutcomes}

-- Responses by document 01's letter: each carrier that is there answers best to its one goal, whatever it has heard from those above it.
abbrev pub EarlierResponses : OneDockFloor → List ℕ → (ℕ → List View → Answer) → Type 0
EarlierResponses old ws respond =
    (i : ℕ) (vs : List View) → i < old.carriers → length vs ≡ i →
    BestTo (get_or old.goals i 0) (task_of (with_one_dock old) ws (i + 1)) (seen (with_one_dock old) vs) (respond i vs)

-- The reference machine of document 01's floor with given responses.
abbrev pub earlier_machine : OneDockFloor → (ℕ → List View → Answer) → Machine
earlier_machine old respond =
    record { carriers = old.carriers; depth = old.depth; needed = state_size old.carriers; respond = respond }

-- With responses by document 01's letter the entries' definitions answer as they do on the floor with one dock: the machine's calls and its
-- state after them, trials, the listed runs and their reports, the sequential answers, and the carriers that shut one in.
pub record EarlierAnswers (old : OneDockFloor) (ws : List ℕ) (respond : ℕ → List View → Answer) : Type 0 where
  pub call : (s : State) (x : Call) → reply (earlier_machine old respond) s x ≡ reply (machine_of (with_one_dock old) ws) s x
  pub state : (s : State) (x : Call) → after_call (earlier_machine old respond) s x ≡ after_call (machine_of (with_one_dock old) ws) s x
  pub trials : (o : Order) (seed : ℕ) → trial o (earlier_machine old respond) seed ≡ trial o (machine_of (with_one_dock old) ws) seed
  pub runs : runs_of (earlier_machine old respond) ≡ runs_of (machine_of (with_one_dock old) ws)
  pub reports : (rank : ℕ) →
      report_from (earlier_machine old respond) fresh (run_at (earlier_machine old respond) rank)
      ≡ report_from (machine_of (with_one_dock old) ws) fresh (run_at (machine_of (with_one_dock old) ws) rank)
  pub plan : sequential respond old.carriers ≡ plan_of (with_one_dock old) ws
  pub blockers : (i : ℕ) → i < old.carriers →
      set_of (left_after (respond i) i (map heard (take i (sequential respond old.carriers)))) ≡ blockers_of (with_one_dock old) ws i

pub record SeveralDocks : Type 0 where
  -- One dock: what document 01 accepts is accepted; its refusals are the same both ways, except 6, which stays where it is for a start.
  pub earlier_accepted : (old : OneDockFloor) (ws : List ℕ) → earlier_check old ws ≡ passed → check_of (with_one_dock old) ws ≡ passed
  pub earlier_refused : (old : OneDockFloor) (ws : List ℕ) (k p : ℕ) → (k ≡ 6 → ⊥) →
      (earlier_check old ws ≡ refused k p) ↔ (check_of (with_one_dock old) ws ≡ refused k p)
  pub earlier_start : (old : OneDockFloor) (ws : List ℕ) (i : ℕ) → earlier_check old ws ≡ refused 6 (1 + i) →
      among old.starts i (get_or old.starts i 0) ≡ true → check_of (with_one_dock old) ws ≡ refused 6 (1 + i)
  -- Every entry gives the earlier answers on what document 01 accepts.
  pub earlier_answers : (old : OneDockFloor) (ws : List ℕ) (respond : ℕ → List View → Answer) → earlier_check old ws ≡ passed →
      EarlierResponses old ws respond → EarlierAnswers old ws respond
  -- The order of a carrier's docks changes no answer of any entry, and nothing in lent memory but the sheet that is written.
  pub order_answers : (f f' : Floor) (ws : List ℕ) → SameDocks f f' → SameOutcomes f ws f' ws
  -- Plans, responses and searches: the earlier ones with one dock, whatever the order of docks, and by each dock alone.
  pub plans : DocksClaims
