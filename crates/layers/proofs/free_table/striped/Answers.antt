-- `layers::free_table::striped` meets its contract. The loop's invariant: the words passed are made. Assumes nothing.
use native.Mathlib.Omega.{arith}
use mathlib.Core.Path.{◌≡◌, refl}
use Rattle.bitrows.proofs.FillLaws.{filled_none, filled_more}
use Rattle.layers.specs.Table.{row_of}
use Rattle.layers.proofs.free_table.striped.Goals as goal

pub loop-j-init : goal.loop-j-init
loop-j-init c = filled_none _ _

pub loop-j-preserved : goal.loop-j-preserved
unfolding row_of
loop-j-preserved c = filled_more _ _ _ _ _ c.loop-j.invariant refl

pub returns : goal.returns
returns c =
    let e : c.loop-j.j ≡ 32 = omega arith in
    rw e at c.loop-j.invariant
