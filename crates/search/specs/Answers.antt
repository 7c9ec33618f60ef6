-- What a search answers, in document 01's terms: a route, none, or a refusal with its number and place.
use Rattle.std.specs.Prelude.{ℕ, List, Option, Some, None, Result}
use Rattle.floor.specs.declared.Refusal.{Refusal}
use Rattle.floor.specs.Answers.{outcome_by}
use Rattle.laws.specs.Verdict.{Outcome, value}
use Rattle.route.specs.Route.{Answer, none, route}

-- A search that is not refused has an answer.
abbrev pub answered : Answer → Outcome Answer
answered x = value x

-- What the code's answer says: the route that it holds, or none.
abbrev pub answer_of : Option (List ℕ) → Answer
answer_of None = none
answer_of (Some r) = route r

-- The same of an answer that may be refused.
abbrev pub result_of : Result (Option (List ℕ)) Refusal → Outcome Answer
result_of x = outcome_by answer_of x
