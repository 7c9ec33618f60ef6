use native.Mathlib.Omega.{arith}
use mathlib.Core.Path.{refl}
use Rattle.layers.specs.Table.{slot_of, word_of}
use Rattle.layers.proofs.table.word.Goals as goal

-- src/table.rt:25:1
pub returns : goal.returns
unfolding word_of slot_of
returns c = (refl, omega arith)
