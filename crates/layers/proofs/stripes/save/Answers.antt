-- `layers::stripes::save` meets its contract. The loop's invariant: the stripes passed are written.
-- Assumes nothing.
use native.Mathlib.Omega.{arith}
use mathlib.Core.Path.{◌≡◌, refl, ap, ◌∙◌}
use lib.ListN.{length}
use Rattle.bitrows.proofs.FillLaws.{length_written}
use Rattle.layers.proofs.RewriteLaws.{rewritten_none}
use Rattle.layers.proofs.StripesLaws.{rewritten_stripe}
use Rattle.layers.proofs.stripes.save.Goals as goal

pub loop-i-init : goal.loop-i-init
loop-i-init c = (refl, λ value e. rewritten_none _ _ _)

pub put_stripe-requires : goal.put_stripe-requires
put_stripe-requires c =
    omega (arith, c.loop-i.invariant.0, c.requires)

pub loop-i-preserved : goal.loop-i-preserved
loop-i-preserved c =
    let v = c.loop-i.invariant in
    let e = c.put_stripe.ensures in (
      ap length e ∙ length_written _ _ _ 4 ∙ v.0,
      λ value h. rewritten_stripe _ _ _ _ value _ _ c.loop-i-test.true c.requires h (v.1 value h) e,
    )

pub shape_of-table : goal.shape_of-table
shape_of-table c =
    c.loop-i.invariant.0

pub returns : goal.returns
returns c =
    let e : c.loop-i.i ≡ 8 = omega arith in
    rw e at c.loop-i.invariant.1
