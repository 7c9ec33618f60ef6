-- `sheet::lines::put_carriers` meets its contract: invariant: the lines passed stand one behind the other.
use Rattle.sheet.specs.Text.{carrier_at}
use Rattle.sheet.proofs.LineLaws.{lines, lines_next, lines_keep, lines_end}
use Rattle.sheet.proofs.DockLaws.{carrier_first, carrier_next, carrier_end, carriers_behind, carrier_step, carriers_high}
use native.Mathlib.Omega.{arith}
use Rattle.sheet.proofs.lines.put_carriers.Goals as goal

pub loop-i-init : goal.loop-i-init
loop-i-init c = search (lines, carrier_first)

pub put_carrier-requires : goal.put_carrier-requires
put_carrier-requires c =
    let l = c.loop-i-test.true in
    let i = c.loop-i.i in
    let here = c.loop-i.invariant.0 in
    let step = carrier_step c.args.f i _ l in
    let end = carrier_end c.args.f i in
    let size = lines_keep _ (carrier_at c.args.f) (carriers_behind _) _ _ i (omega (arith, end, step, c.requires.carriers_in_bounds))
    c.loop-i.invariant.1 in record {
      i_bound = (omega (arith, l, c.requires.carriers_bound.0), c.requires.carriers_bound.1);
      i_bound_2 = ((c.requires.counts_within i l).1, omega (arith, here, end, step, size, c.requires.carriers_in_bounds));
    }

pub overflow_add-at-in-loop-i : goal.overflow_add-at-in-loop-i
overflow_add-at-in-loop-i c =
    let l = c.loop-i-test.true in
    let few = (c.requires.counts_within c.loop-i.i l).1 in
    let high = carriers_high c.args.f c.loop-i.i (λ j b. (c.requires.counts_within j (omega (arith, b, l))).1) in
    record { fits = omega (arith, c.dock_count.ensures.0, few, high, c.loop-i.invariant.0, l, c.requires.carriers_bound.0) }

pub loop-i-preserved : goal.loop-i-preserved
loop-i-preserved c =
    let l = c.loop-i-test.true in
    let here = c.loop-i.invariant.0 in
    let step = carrier_step c.args.f c.loop-i.i _ l in (
      carrier_next _ _ _ _ here c.dock_count.ensures.0,
      lines_next _ (carrier_at c.args.f) (carriers_behind _) _ _ _ _ _ c.loop-i.invariant.1
          c.put_carrier.ensures here (omega (arith, step, c.requires.carriers_in_bounds)),
    )

pub returns : goal.returns
returns c =
    rw (carrier_first c.args.f)
    (lines_end _ _ (carrier_at c.args.f 0) _ _ _ c.loop-i.invariant.1 c.loop-i.auto.i-end c.loop-i-test.false)
