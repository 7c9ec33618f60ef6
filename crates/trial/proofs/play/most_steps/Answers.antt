-- `trial::play::most_steps` meets its contract: the ceiling is told, or refused where there is none.
use Rattle.trial.proofs.OrderLaws.{most_or}
use Rattle.trial.proofs.play.most_steps.Goals as goal

pub returns : goal.returns
returns c = rw c.unwrap_or.ensures (most_or _ _ c.ceiling.ensures)
