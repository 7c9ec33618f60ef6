-- `sheet::values::floor` meets its contract: invariant: the column is the next line's, and the carriers passed have their places.
use Rattle.sheet.proofs.ListedLaws.{up_to_none, up_to_step, up_to_end}
use Rattle.sheet.proofs.ValueLaws.{first_line_lem, start_there, count_there, docks_there, column_low, next_column, docks_step, places_all, floor_made}
use Rattle.sheet.specs.Values.{start_in, starts_at, counts_at}
use mathlib.Core.Path.{◌∙◌}
use native.Mathlib.Omega.{arith}
use Rattle.sheet.proofs.values.floor.Goals as goal

pub loop-i-init : goal.loop-i-init
loop-i-init c = record { here = first_line_lem _; starts = up_to_none _ 8; counts = up_to_none _ 8; docks = up_to_none _ 32 }

pub overflow_add-column : goal.overflow_add-column
overflow_add-column c =
    let asked = c.requires.carriers_bound in
    record { fits = omega (arith, c.loop-i.invariant.here, column_low _ _ asked.0 asked.1 _ c.loop-i-test.true) }

pub value-count-requires : goal.value-count-requires
value-count-requires c =
    let asked = c.requires.carriers_bound in
    omega (arith, c.loop-i.invariant.here, count_there _ _ asked.0 asked.1 _ c.loop-i-test.true)

pub cell-requires-clause-at_in_bounds : goal.cell-requires-clause-at_in_bounds
cell-requires-clause-at_in_bounds c =
    let asked = c.requires.carriers_bound in
    omega (arith, c.loop-i.invariant.here, start_there _ _ asked.0 asked.1 _ c.loop-i-test.true)

pub overflow_add-column-in-loop-i : goal.overflow_add-column-in-loop-i
overflow_add-column-in-loop-i c =
    let asked = c.requires.carriers_bound in
    record { fits = omega (arith, c.loop-i.invariant.here, column_low _ _ asked.0 asked.1 _ c.loop-i-test.true) }

pub docks-few-requires-clause-count_bound : goal.docks-few-requires-clause-count_bound
docks-few-requires-clause-count_bound c =
    let asked = c.requires.carriers_bound in
    let next = next_column _ _ asked.0 asked.1 _ c.loop-i-test.true _ _ c.loop-i.invariant.here c.value-count.ensures in
    (next.1.0, docks_there _ _ asked.0 asked.1 _ c.loop-i-test.true _ _ c.loop-i.invariant.here next.0)

pub overflow_add-column-in-loop-i-3 : goal.overflow_add-column-in-loop-i-3
overflow_add-column-in-loop-i-3 c =
    let asked = c.requires.carriers_bound in
    let next = next_column _ _ asked.0 asked.1 _ c.loop-i-test.true _ _ c.loop-i.invariant.here c.value-count.ensures in
    record { fits = omega (arith, next.1.0, next.1.1.0) }

pub loop-i-preserved : goal.loop-i-preserved
unfolding start_in
loop-i-preserved c =
    let asked = c.requires.carriers_bound in
    let l = c.loop-i-test.true in
    let was = c.loop-i.invariant in
    let next = next_column _ _ asked.0 asked.1 _ l _ _ was.here c.value-count.ensures in record {
      here = next.1.1.1;
      starts = up_to_step _ _ _ 8 _ (omega (arith, l, asked.0)) was.starts (rw was.here at c.cell.ensures);
      counts = up_to_step _ _ _ 8 _ (omega (arith, l, asked.0)) was.counts next.0;
      docks = docks_step _ _ _ _ asked.0 _ _ _ _ _ l was.here next.0 was.docks (c.copy_from_slice.ensures.after ∙ c.docks-few.ensures);
    }

pub returns : goal.returns
unfolding starts_at counts_at
returns c =
    let was = c.loop-i.invariant in
    let last = c.loop-i-test.false in
    let end = c.loop-i.auto.i-end in
    floor_made _ _ _ _ _ c.requires.f_value (up_to_end _ _ _ 8 _ end last was.starts) (up_to_end _ _ _ 8 _ end last was.counts)
    (places_all _ _ _ _ (omega (arith, end)) (omega (arith, last)) was.docks)
