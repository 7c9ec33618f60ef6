-- `sheet::lines::put_carrier` meets its contract: the start, the dock count, the docks and a newline, one behind the other.
use Rattle.floor.specs.Checks.{start_of, count_of}
use Rattle.fields.specs.Form.{counted_length}
use Rattle.sheet.proofs.DockLaws.{carrier_puts}
use borrow.Author.Rules.{rules}
use Rattle.sheet.proofs.lines.put_carrier.Goals as goal

pub put_cell-requires-clause-at_in_bounds : goal.put_cell-requires-clause-at_in_bounds
unfolding counted_length count_of
put_cell-requires-clause-at_in_bounds c = search rules

pub put_field-requires : goal.put_field-requires
unfolding counted_length count_of
put_field-requires c = search rules

pub put_docks-requires-clause-count_bound : goal.put_docks-requires-clause-count_bound
unfolding counted_length count_of
put_docks-requires-clause-count_bound c = search rules

pub bounds-out-at : goal.bounds-out-at
unfolding counted_length count_of
bounds-out-at c = search rules

pub returns : goal.returns
unfolding start_of count_of
returns c =
    carrier_puts _ _ _ _ _ _ _ c.requires.i_bound_2.1 c.put_cell.ensures c.put_field.ensures
    c.put_docks.ensures
