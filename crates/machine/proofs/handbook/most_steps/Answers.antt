-- `machine::handbook::most_steps` meets its contract: the table's rule at the entry that is read.
use Rattle.machine.proofs.Figures.{figures}
use Rattle.machine.proofs.CeilingLaws.{figure_right}
use Rattle.machine.proofs.handbook.most_steps.Goals as goal

pub returns : goal.returns
unfolding figures
returns c =
    figure_right c.args.n c.requires.0 c.requires.1
