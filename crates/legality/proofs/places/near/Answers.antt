-- `legality::places::near` meets its contract: a stay, a move along a row, or one along a column.
use Rattle.legality.proofs.TestLaws.{near_stay, near_row, near_column}
use Rattle.legality.proofs.places.near.Goals as goal

pub returns-then-d-c : goal.returns-then-d-c
returns-then-d-c c = near_stay _ _ _ c.if-d-c.true

pub returns-then-in_line : goal.returns-then-in_line
returns-then-in_line c = near_row _ _ _ c.if-d-c.false c.in_line.ensures c.if-in_line.true

pub returns : goal.returns
returns c = near_column _ _ _ c.if-d-c.false c.in_line.ensures c.if-in_line.false c.in_line-2.ensures
