-- `records::seen::seen_records` meets its contract: the first j records are those of the memory as they are seen.
use Rattle.records.proofs.SeenLaws.{seen_start, seen_step, seen_keeps, seen_end}
use lib.ListN.{length, length-replicate}
use mathlib.Core.Path.{sym, ◌∙◌, ap}
use Prim.Native.Nat.{ℕ}
use native.Mathlib.Omega.{arith}
use Rattle.records.proofs.seen.seen_records.Goals as goal

pub loop-j-init : goal.loop-j-init
loop-j-init c =
    (ap length c.blank-shown.ensures ∙ length-replicate {A = ℕ} 520 0, seen_start _ _ _)

pub slice_bounds-store_seen-end : goal.slice_bounds-store_seen-end
slice_bounds-store_seen-end c =
    sym c.loop-j.invariant.0

pub store_seen-requires : goal.store_seen-requires
store_seen-requires c =
    let p = c.requires in
    (omega (arith, p), p.1, omega (arith, p), omega (arith, p, c.loop-j.invariant.0))

pub loop-j-preserved : goal.loop-j-preserved
loop-j-preserved c =
    let p = c.requires in
    let j = c.loop-j.j in
    let inv = c.loop-j.invariant in
    let e = c.store_seen.ensures in (
      seen_keeps _ _ _ _ j p.1 (omega (arith, p, inv.0)) (omega (arith, p)) e ∙ inv.0,
      seen_step _ _ _ _ j p.1 (omega (arith, p, inv.0)) (omega (arith, p)) e inv.1,
    )

pub returns : goal.returns
returns c =
    let inv = c.loop-j.invariant in
    (inv.0, seen_end _ _ _ _ _ (omega arith) c.loop-j-test.false inv.1)
