-- `passes::walk::next` meets its contract: the digits beside the place are its near cells, and each test is passed over or gives its cell.
-- Assumes nothing.
use Rattle.passes.proofs.NextLaws.{within, goes_up, goes_left, goes_here, goes_right, goes_down, goes_nowhere}
use Rattle.passes.proofs.walk.next.Goals as goal

pub overflow_sub-result : goal.overflow_sub-result
overflow_sub-result c =
    within _ _ _ c.has_above.ensures c.if-has_above.true

pub returns-then-has_above : goal.returns-then-has_above
returns-then-has_above c =
    let p = c.requires in
    λ d at. goes_up _ _ _ d _ p.0 p.1 at c.has_above.ensures c.if-has_above.true

pub overflow_sub-result-then-has_left : goal.overflow_sub-result-then-has_left
overflow_sub-result-then-has_left c =
    within _ _ _ c.has_left.ensures c.if-has_left.true

pub returns-then-has_left : goal.returns-then-has_left
returns-then-has_left c =
    let p = c.requires in
    λ d at. goes_left _ _ _ d _ p.0 p.1 at c.has_above.ensures c.if-has_above.false
    c.has_left.ensures c.if-has_left.true

pub returns-then-has_at : goal.returns-then-has_at
returns-then-has_at c =
    let p = c.requires in
    λ d at. goes_here _ _ _ d _ p.0 p.1 at c.has_above.ensures c.if-has_above.false
    c.has_left.ensures c.if-has_left.false c.has_at.ensures c.if-has_at.true

pub returns-then-has_right : goal.returns-then-has_right
returns-then-has_right c =
    let p = c.requires in
    λ d at. goes_right _ _ _ d _ p.0 p.1 at c.has_above.ensures c.if-has_above.false
    c.has_left.ensures c.if-has_left.false c.has_at.ensures c.if-has_at.false
    c.has_right.ensures c.if-has_right.true

pub returns-then-has_below : goal.returns-then-has_below
returns-then-has_below c =
    let p = c.requires in
    λ d at. goes_down _ _ _ d _ p.0 p.1 at c.has_above.ensures c.if-has_above.false
    c.has_left.ensures c.if-has_left.false c.has_at.ensures c.if-has_at.false
    c.has_right.ensures c.if-has_right.false c.has_below.ensures c.if-has_below.true

pub returns : goal.returns
returns c =
    let p = c.requires in
    λ d at. goes_nowhere _ _ _ d _ p.0 p.1 at c.has_above.ensures c.if-has_above.false
    c.has_left.ensures c.if-has_left.false c.has_at.ensures c.if-has_at.false
    c.has_right.ensures c.if-has_right.false c.has_below.ensures c.if-has_below.false
