-- `fields::slot::count_form` meets its contract: no field, a number that is not 1 to 4, or good.
use Rattle.std.proofs.Common.{rules, tests}
use Rattle.floor.specs.Checks.{within}
use Rattle.fields.specs.Form.{count_form}
use Rattle.fields.proofs.ReachedLaws.{slots, way, reaches, stops_at}
use Rattle.fields.proofs.CountLaws.{field_there}
use mathlib.Core.Path.{◌≡◌}
use Rattle.fields.proofs.slot.count_form.Goals as goal

pub returns-in_err-field_form : goal.returns-in_err-field_form
unfolding count_form
returns-in_err-field_form c = search (stops_at, c.in_err-field_form.ensures)

pub number-x-requires : goal.number-x-requires
number-x-requires c = field_there _ _ (reaches _ _ _ c.in_ok-field_form.ensures).0

pub returns-then-not-contains : goal.returns-then-not-contains
unfolding count_form within
returns-then-not-contains c =
    let test : c.contains.result ≡ within 1 4 c.number-x.result =
    rw (c.contains.ensures.value, c.new.ensures.start, c.new.ensures.end, c.new.ensures.exhausted) (search (rules, tests)) in
    search (slots, way, c.in_ok-field_form.ensures, rw c.number-x.ensures at test) depth 7

pub returns : goal.returns
unfolding count_form within
returns c =
    let test : c.contains.result ≡ within 1 4 c.number-x.result =
    rw (c.contains.ensures.value, c.new.ensures.start, c.new.ensures.end, c.new.ensures.exhausted) (search (rules, tests)) in
    search (slots, way, c.in_ok-field_form.ensures, rw c.number-x.ensures at test) depth 7
