-- `printing::lines::put_word` meets its contract: five bytes copied are a block of five bytes.
use mathlib.Core.Path.{refl}
use Rattle.printing.specs.Text.{none_word}
use Rattle.fields.proofs.StoreLaws.{put_copied}
use Rattle.printing.proofs.lines.put_word.Goals as goal

pub returns : goal.returns
unfolding none_word
returns c = put_copied _ _ _ _ 5 c.copy_from_slice.ensures.after refl
