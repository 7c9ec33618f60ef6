-- `layers::free_table::fill_free` meets its contract. The loop's invariant: the free rows stand at the beats passed.
-- Assumes nothing.
use Prim.Native.Nat.{ℕ}
use native.Mathlib.Omega.{arith}
use mathlib.Core.Path.{◌≡◌, sym, ap, ◌∙◌}
use lib.ListN.{length, length-replicate}
use Rattle.layers.proofs.FreeLaws.{free_first, free_more}
use Rattle.layers.proofs.free_table.fill_free.Goals as goal

pub put_rows-requires : goal.put_rows-requires
put_rows-requires c =
    (omega arith, omega (arith, ap length c.requires.0, length-replicate {A = ℕ} 2049 0))

pub loop-t-init : goal.loop-t-init
loop-t-init c =
    free_first _ _ _ _ c.striped-words.ensures c.requires.0 c.put_rows.ensures

pub overflow_mul-t : goal.overflow_mul-t
overflow_mul-t c = omega arith

pub load-x-requires : goal.load-x-requires
load-x-requires c =
    omega (arith, c.loop-t.invariant.long, c.loop-t-test.true, c.requires.3)

pub overflow_mul-t-in-loop-t : goal.overflow_mul-t-in-loop-t
overflow_mul-t-in-loop-t c = omega arith

pub save-requires : goal.save-requires
save-requires c =
    omega (arith, c.loop-t.invariant.long, c.loop-t-test.true, c.requires.3)

pub loop-t-preserved : goal.loop-t-preserved
loop-t-preserved c =
    free_more _ _ _ _ (omega arith) c.loop-t.invariant (c.save.ensures _ c.load-x.ensures)

pub shape_of-table : goal.shape_of-table
shape_of-table c =
    c.loop-t.invariant.long ∙ sym (ap length c.requires.0 ∙ length-replicate {A = ℕ} 2049 0)

pub returns : goal.returns
returns c =
    let e : c.loop-t.t ≡ c.args.n = omega arith in
    rw e at c.loop-t.invariant
