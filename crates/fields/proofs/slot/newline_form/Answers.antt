-- `fields::slot::newline_form` meets its contract: ended, another byte, or good.
use Rattle.fields.specs.Form.{newline_form}
use Rattle.fields.proofs.ReachedLaws.{slots}
use Rattle.fields.proofs.slot.newline_form.Goals as goal

pub returns-then-text-at : goal.returns-then-text-at
unfolding newline_form
returns-then-text-at c = search slots depth 6

pub returns-then-text-at-ne10 : goal.returns-then-text-at-ne10
unfolding newline_form
returns-then-text-at-ne10 c = search slots depth 6

pub returns : goal.returns
unfolding newline_form
returns c = search slots depth 6
