-- `printing::text_length` meets its contract: its definition.
use Rattle.printing.specs.Print.{text_length}
use mathlib.Core.Path.{refl}
use Rattle.printing.proofs.text_length.Goals as goal

pub returns : goal.returns
unfolding text_length
returns c = refl
