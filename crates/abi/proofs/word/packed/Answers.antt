-- `abi::word::packed` meets its contract: the word is the sum that the definition writes.
use Rattle.abi.specs.Word.{packed}
use Rattle.abi.proofs.WordLaws.{capped_min}
use mathlib.Core.Path.{refl}
use Rattle.abi.proofs.word.packed.Goals as goal

pub returns : goal.returns
unfolding packed
returns c = rw (c.min.ensures, c.min-2.ensures, capped_min 255 c.args.second, capped_min 281474976710655 c.args.rest) refl
