-- `fields::line::counted_form` meets its contract: a chain of four checks, the last of a line of twice the count.
use Rattle.fields.specs.Form.{counted_form}
use Rattle.fields.proofs.ReachedLaws.{way, goes_on, reaches}
use Rattle.fields.proofs.CountLaws.{count_there, count_tells}
use Rattle.fields.proofs.ColumnLaws.{counted_last}
use native.Mathlib.Omega.{arith}
use Rattle.fields.proofs.line.counted_form.Goals as goal

pub returns-in_err-field_form : goal.returns-in_err-field_form
unfolding counted_form
returns-in_err-field_form c = search (way, c.in_err-field_form.ensures) depth 7

pub returns-in_err-field_form-2 : goal.returns-in_err-field_form-2
unfolding counted_form
returns-in_err-field_form-2 c = search (way, c.in_ok-field_form.ensures, c.in_err-field_form-2.ensures) depth 7

pub returns-in_err-count_form : goal.returns-in_err-count_form
unfolding counted_form
returns-in_err-count_form c = search (way, c.in_ok-field_form.ensures, c.in_ok-field_form-2.ensures, c.in_err-count_form.ensures) depth 7

pub number-requires : goal.number-requires
number-requires c = count_there _ _ (reaches _ _ _ c.in_ok-count_form.ensures).0

pub line_form-requires : goal.line_form-requires
line_form-requires c =
    let few = count_tells _ _ (reaches _ _ _ c.in_ok-count_form.ensures).0 in
    (omega (arith, c.requires), omega (arith, c.number.ensures, few.1))

pub returns : goal.returns
unfolding counted_form
returns c =
    goes_on _ _ _ _ _ c.in_ok-field_form.ensures
    (goes_on _ _ _ _ _ c.in_ok-field_form-2.ensures
    (goes_on _ _ _ _ _ c.in_ok-count_form.ensures (counted_last _ _ _ c.number.ensures c.line_form.ensures)))
