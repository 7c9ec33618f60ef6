-- `abi::word::too_short` meets its contract: the parts of the definition.
use Rattle.abi.specs.Word.{word_of}
use Rattle.abi.proofs.word.too_short.Goals as goal

pub returns : goal.returns
unfolding word_of
returns c = c.packed.ensures
