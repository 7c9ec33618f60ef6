-- Who shuts a carrier in, as an entry (document 02, slip 8): its refusals in order, its answer, and the lent memory after it. The entry's
-- carriers count from 1.
use Rattle.std.specs.Prelude.{ℕ, ◌-◌, Bool, true, false, List, Result, length}
use Rattle.laws.specs.Verdict.{Verdict, Outcome, ◌then◌, demand, ◌gives◌, when_passed}
use Rattle.floor.specs.declared.Floor.{Floor}
use Rattle.floor.specs.declared.Refusal.{Refusal}
use Rattle.floor.specs.Answers.{outcome_by}
use Rattle.route.specs.Route.{Answer, none, route}
use Rattle.records.specs.Records.{stored}
use Rattle.floor.specs.Checks.{within}
use Rattle.planner.specs.Plan.{plan_of, plan_verdict}
use Rattle.planner.specs.Claims.{answer_at}
use Rattle.blockers.specs.Blockers.{blockers_of}

-- The answer is none.
unfoldable pub is_none : Answer → Bool
is_none none = true
is_none (route r) = false

-- The refusals but the last: the floor's, 9 if fewer than 65 numbers a carrier are lent for the answers, 7, 0 if there is no such carrier.
unfoldable pub carrier_verdict : Floor → List ℕ → (carrier lent : ℕ) → Verdict
carrier_verdict f ws carrier lent = plan_verdict f ws lent then demand (within 1 f.carriers carrier) 7 0

-- All refusals: those, then 16, 0 if the carrier has a route.
unfoldable pub blockers_verdict : Floor → List ℕ → (carrier lent : ℕ) → Verdict
blockers_verdict f ws carrier lent =
    carrier_verdict f ws carrier lent then demand (is_none (answer_at (plan_of f ws) (carrier - 1))) 16 0

-- What the code's answer says: the set of carriers as one number, digit j − 1 being carrier j's, or the refusal.
abbrev pub blocked_outcome : Result ℕ Refusal → Outcome ℕ
blocked_outcome x = outcome_by (λ n. n) x

-- What the entry answers.
unfoldable pub blockers_outcome : Floor → List ℕ → (carrier lent : ℕ) → Outcome ℕ
blockers_outcome f ws carrier lent = blockers_verdict f ws carrier lent gives blockers_of f ws (carrier - 1)

-- The lent memory afterwards: the sequential answers in front, as planning leaves them; all as it was with a refusal.
unfoldable pub blockers_memory : Floor → List ℕ → (carrier : ℕ) → List ℕ → List ℕ
blockers_memory f ws carrier m = when_passed (blockers_verdict f ws carrier (length m)) (stored (plan_of f ws) m) m
