-- `printing::lines::put_answer` meets its contract: the tag decides between the two lines.
use mathlib.Core.Path.{◌≡◌}
use lib.ListN.{length}
use Rattle.printing.proofs.PutLaws.{none_put, route_put}
use borrow.Author.Rules.{rules}
use Rattle.printing.proofs.lines.put_answer.Goals as goal

pub returns-then-answers-i-ne2 : goal.returns-then-answers-i-ne2
returns-then-answers-i-ne2 c =
    none_put _ _ _ _ _ _ c.if-answers-i-ne2.true c.put_none.ensures

pub returns : goal.returns
returns c =
    let long : length c.load-cells.result ≡ 64 = search rules in
    route_put _ _ _ _ _ _ _ _ c.if-answers-i-ne2.false c.load-cells.ensures long
    c.requires.i_bound.1 c.arrival.ensures c.put_route.ensures
