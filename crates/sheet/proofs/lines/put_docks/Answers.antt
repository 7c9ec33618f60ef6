-- `sheet::lines::put_docks` meets its contract: invariant: the docks passed stand one behind the other.
use Rattle.sheet.proofs.LineLaws.{lines, even_next}
use Rattle.sheet.proofs.DockLaws.{cell_text_length, dock_place, dock_put}
use mathlib.Core.Path.{refl}
use Prim.Native.Nat.{ℕ}
use native.Mathlib.Omega.{arith}
use Rattle.sheet.proofs.lines.put_docks.Goals as goal

pub loop-k-init : goal.loop-k-init
loop-k-init c = search lines

pub loop-k-preserved : goal.loop-k-preserved
loop-k-preserved c =
    let dock = dock_place c.args.f c.args.i c.loop-k.k (omega (arith, c.requires, c.loop-k-test.true)) in
    even_next _ 10 _ (λ (p : ℕ). cell_text_length _ _) _ _ _ _ _ c.loop-k.invariant
    (dock_put _ _ _ _ dock c.put_cell.ensures) refl
    (omega (arith, c.requires, c.loop-k-test.true))
