-- `abi::numbers::taken` meets its contract: the part that is copied.
use Rattle.abi.proofs.RecordLaws.{part_taken}
use mathlib.Core.Path.{◌∙◌}
use Rattle.abi.proofs.numbers.taken.Goals as goal

pub returns : goal.returns
returns g c = c.copy_from_slice.ensures.after ∙ part_taken _ _ _
