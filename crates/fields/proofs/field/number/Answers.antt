-- `fields::field::number` meets its contract: the five digits are those of the definition.
use Rattle.fields.specs.Field.{number_at, number}
use native.Mathlib.Omega.{arith}
use Rattle.fields.proofs.field.number.Goals as goal

pub returns : goal.returns
unfolding number_at number
returns c = omega (arith, c.digit-x5.ensures.0, c.digit-x4.ensures.0)
