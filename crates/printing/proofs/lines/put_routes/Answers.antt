-- `printing::lines::put_routes` meets its contract: line 1 and the lines of the carriers behind it.
use Rattle.printing.proofs.PutLaws.{text_put, first_length}
use Rattle.printing.proofs.lines.put_routes.Goals as goal

pub returns : goal.returns
returns c =
    text_put _ _ _ _ _ _ _ c.put_first.ensures c.put_answers.ensures (first_length _ _)
    c.requires.enough
