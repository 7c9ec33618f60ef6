-- `sheet::form::rest_form` meets its contract: a chain of three checks, each from the column that the one before it reached.
use Rattle.fields.proofs.ReachedLaws.{checks}
use Rattle.sheet.specs.Form.{rest_form}
use Rattle.sheet.proofs.ReachLaws.{walls_low, walls_lines, end_behind}
use Rattle.sheet.proofs.form.rest_form.Goals as goal

pub returns-in_err-column : goal.returns-in_err-column
unfolding rest_form
returns-in_err-column c = search (checks, c.in_err-column.ensures) depth 7

pub pair_lines-requires : goal.pair_lines-requires
pair_lines-requires c = (walls_low _ c.args.f _ c.in_ok-column.ensures c.requires.0, c.requires.1)

pub returns-in_err-last : goal.returns-in_err-last
unfolding rest_form
returns-in_err-last c =
    let walls = walls_lines _ c.args.f _ c.in_ok-column.ensures _ c.in_err-last.ensures in
    search (checks, c.in_ok-column.ensures, walls) depth 7

pub returns-in_err-end_form : goal.returns-in_err-end_form
unfolding rest_form
returns-in_err-end_form c =
    let walls = walls_lines _ c.args.f _ c.in_ok-column.ensures _ c.in_ok-last.ensures in
    let end = end_behind _ c.args.f _ c.in_ok-column.ensures _ _ c.in_ok-last.ensures c.in_err-end_form.ensures in
    search (checks, c.in_ok-column.ensures, walls, end) depth 7

pub returns : goal.returns
unfolding rest_form
returns c =
    let walls = walls_lines _ c.args.f _ c.in_ok-column.ensures _ c.in_ok-last.ensures in
    let end = end_behind _ c.args.f _ c.in_ok-column.ensures _ _ c.in_ok-last.ensures c.in_ok-end_form.ensures in
    search (checks, c.in_ok-column.ensures, walls, end) depth 7
