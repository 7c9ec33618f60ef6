-- `stranded::put_lines` meets its contract: where nothing was put, nobody is stranded.
use Rattle.stranded.specs.Text.{nobody_line}
use Rattle.stranded.proofs.LineLaws.{nobody_put, somebody_put}
use Rattle.stranded.proofs.put_lines.Goals as goal

pub returns-then-n-eq0 : goal.returns-then-n-eq0
unfolding nobody_line
returns-then-n-eq0 c = nobody_put _ _ _ _ c.put_carriers-n.ensures c.if-n-eq0.true _ _ c.put_bytes.ensures

pub returns : goal.returns
returns c = somebody_put _ _ _ _ c.put_carriers-n.ensures c.if-n-eq0.false
