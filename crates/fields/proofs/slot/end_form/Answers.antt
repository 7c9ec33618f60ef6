-- `fields::slot::end_form` meets its contract: an extra byte, or none.
use Rattle.fields.specs.Form.{end_form}
use Rattle.fields.proofs.ReachedLaws.{slots}
use Rattle.fields.proofs.slot.end_form.Goals as goal

pub returns-then-at-text : goal.returns-then-at-text
unfolding end_form
returns-then-at-text c = search slots depth 6

pub returns : goal.returns
unfolding end_form
returns c = search slots depth 6
