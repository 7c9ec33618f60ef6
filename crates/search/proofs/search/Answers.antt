-- `search::search` meets its contract: a refusal is answered as met; otherwise the floor is accepted, and the search with its free
-- rows answers as with its walls. Assumes nothing.
use mathlib.Core.Path.{ap, ◌∙◌}
use Rattle.floor.specs.Answers.{outcome_by}
use Rattle.floor.proofs.AnswersLaws.{met_passed, gives_next, gives_end}
use Rattle.laws.specs.Verdict.{value}
use Rattle.search.specs.Answers.{answer_of}
use Rattle.search.specs.Search.{search_of}
use Rattle.search.specs.Refused.{Granted}
use Rattle.search.proofs.RequestLaws.{request_granted, granted_searchable, granted_bounds}
use Rattle.search.proofs.search.Goals as goal
use Rattle.search.proofs.search.Goals.{In_ok-request}

granted : (c : In_ok-request) → Granted c.args.f c.args.walls.now c.args.carrier c.args.views.now
granted c = request_granted _ _ _ _ (met_passed c.in_ok-request.ensures)

pub returns-in_err-request : goal.returns-in_err-request
unfolding search_of
returns-in_err-request c = gives_end answer_of _ _ _ c.in_err-request.ensures c.from_residual.ensures.1

pub free_rows-requires-clause-le_width : goal.free_rows-requires-clause-le_width
free_rows-requires-clause-le_width c =
    let b = granted_bounds _ _ _ _ (granted (goal.at.free_rows-requires-clause-le_width c).In_ok-request) in
    (b.width.0, b.width.1, b.height.1)

pub free_rows-requires-clause-walls_in_bounds : goal.free_rows-requires-clause-walls_in_bounds
free_rows-requires-clause-walls_in_bounds c =
    (granted (goal.at.free_rows-requires-clause-walls_in_bounds c).In_ok-request).accepted.lent

pub best_route-requires : goal.best_route-requires
best_route-requires c =
    granted_searchable _ _ _ _ _ (granted (goal.at.best_route-requires c).In_ok-request) c.free_rows.ensures

pub returns : goal.returns
unfolding search_of outcome_by
returns c =
    gives_next _ c.in_ok-request.ensures (ap value (c.best_route.ensures ∙ c.free_rows.ensures.same _ _))
