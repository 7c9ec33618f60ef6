-- `layers::free_table::make` meets its contract. The loop's invariant: the free table is that of the views passed.
-- Assumes nothing.
use Prim.Native.Nat.{ℕ}
use native.Mathlib.Omega.{arith}
use mathlib.Core.Path.{◌≡◌, sym, ap, ◌∙◌}
use lib.ListN.{length, length-replicate}
use Rattle.layers.proofs.FreeTableLaws.{free_table_none}
use Rattle.layers.proofs.free_table.make.Goals as goal

pub overflow_add-g : goal.overflow_add-g
overflow_add-g c =
    omega (arith, c.requires.fits.0.short)

pub fill_free-requires : goal.fill_free-requires
fill_free-requires c =
    (c.requires.table_value, c.requires.fits.2, omega arith, omega (arith, c.requires.fits.0.short))

pub loop-j-init : goal.loop-j-init
loop-j-init c =
    free_table_none _ _ _ _ _ c.requires.fits.0.grid.thin c.requires.fits.0.grid.low (omega arith)
    (omega (arith, c.requires.fits.0.short)) c.fill_free.ensures c.requires.fits.1

pub take_one-requires : goal.take_one-requires
take_one-requires c =
    let f = c.requires.fits.0 in
    (f.grid, omega (arith, f.lent), f.short, c.loop-j.invariant.tidy)

pub loop-j-preserved : goal.loop-j-preserved
loop-j-preserved c =
    c.take_one.ensures _ c.loop-j.invariant

pub shape_of-table : goal.shape_of-table
shape_of-table c =
    c.loop-j.invariant.tidy.long ∙ sym (ap length c.requires.table_value ∙ length-replicate {A = ℕ} 2049 0)

pub returns : goal.returns
returns c =
    let e : c.loop-j.j ≡ c.args.k = omega arith in rw e at c.loop-j.invariant
