-- `fields::line::line_form` meets its contract: invariant: the fields passed are in good form.
use Rattle.fields.specs.Form.{line_form}
use Rattle.fields.proofs.ReachedLaws.{turns_along}
use Rattle.fields.proofs.line.line_form.Goals as goal

pub loop-i-init : goal.loop-i-init
unfolding line_form
loop-i-init c = search turns_along

pub returns-in_err-field_form : goal.returns-in_err-field_form
unfolding line_form
returns-in_err-field_form c = search (turns_along, c.in_err-field_form.ensures) depth 6

pub loop-i-preserved : goal.loop-i-preserved
unfolding line_form
loop-i-preserved c = search (turns_along, c.in_ok-field_form.ensures) depth 6

pub returns : goal.returns
unfolding line_form
returns c = search turns_along depth 6
