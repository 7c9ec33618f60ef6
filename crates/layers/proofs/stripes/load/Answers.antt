-- `layers::stripes::load` meets its contract. Assumes nothing.
use mathlib.Core.Path.{refl}
use Rattle.layers.specs.Stripes.{stripes_of}
use Rattle.layers.proofs.stripes.load.Goals as goal

pub returns : goal.returns
unfolding stripes_of
returns c =
    rw (
      c.stripe.ensures,
      c.stripe-2.ensures,
      c.stripe-3.ensures,
      c.stripe-4.ensures,
      c.stripe-5.ensures,
      c.stripe-6.ensures,
      c.stripe-7.ensures,
      c.stripe-8.ensures,
    ) refl
