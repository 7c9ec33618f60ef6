-- `reporting::put_bytes` meets its contract: the bytes stand in the part that they are copied to.
use mathlib.Core.Path.{refl}
use Rattle.reporting.proofs.ReportLaws.{part_put}
use Rattle.reporting.proofs.put_bytes.Goals as goal

pub returns : goal.returns
returns c = part_put _ _ _ _ _ c.copy_from_slice.ensures.after refl
