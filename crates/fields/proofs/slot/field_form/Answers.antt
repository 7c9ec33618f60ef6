-- `fields::slot::field_form` meets its contract: cut short, bad, or good.
use Rattle.fields.specs.Form.{field_form}
use Rattle.fields.proofs.ReachedLaws.{slots}
use Rattle.fields.proofs.slot.field_form.Goals as goal

pub returns-then-text-at : goal.returns-then-text-at
unfolding field_form
returns-then-text-at c = search slots depth 6

pub returns-then-not-is_field : goal.returns-then-not-is_field
unfolding field_form
returns-then-not-is_field c = search slots depth 6

pub returns : goal.returns
unfolding field_form
returns c = search slots depth 6
