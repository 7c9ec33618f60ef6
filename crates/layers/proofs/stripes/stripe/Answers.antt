-- `layers::stripes::stripe` meets its contract. Assumes nothing.
use mathlib.Core.Path.{refl}
use Rattle.layers.specs.Stripes.{four}
use Rattle.layers.proofs.stripes.stripe.Goals as goal

pub returns : goal.returns
unfolding four
returns c = refl
