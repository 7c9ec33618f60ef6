-- `passes::forward::manhattan` meets its contract. Assumes nothing.
use mathlib.Core.Path.{refl}
use native.Mathlib.Omega.{arith}
use Rattle.passes.specs.Passes.{manhattan_of}
use Rattle.passes.proofs.forward.manhattan.Goals as goal

pub overflow_add-result : goal.overflow_add-result
overflow_add-result c =
    let p = c.place_of-here.ensures in
    let q = c.place_of-there.ensures in
    omega (arith, p.low, p.narrow, q.low, q.narrow, c.abs_diff.ensures, c.abs_diff-2.ensures)

pub returns : goal.returns
unfolding manhattan_of
returns c =
    let p = c.place_of-here.ensures in
    let q = c.place_of-there.ensures in
    rw (c.abs_diff.ensures, c.abs_diff-2.ensures, p.row, p.column, q.row, q.column) refl
