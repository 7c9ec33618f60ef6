-- `abi::word::done` meets its contract: the parts of the definition.
use Rattle.abi.specs.Word.{word_of}
use Rattle.abi.proofs.word.done.Goals as goal

pub returns : goal.returns
unfolding word_of
returns c = c.packed.ensures
