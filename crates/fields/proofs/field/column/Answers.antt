-- `fields::field::column` meets its contract: a space, or the digit.
use Rattle.fields.specs.Field.{column}
use native.Mathlib.Omega.{arith}
use borrow.Author.Tests.{lt-ltb, le-ltb}
use Rattle.fields.proofs.field.column.Goals as goal

pub returns-then-x-unit : goal.returns-then-x-unit
unfolding column
returns-then-x-unit c = rw (lt-ltb c.args.x c.args.unit (omega arith))

pub returns : goal.returns
unfolding column
returns c = rw (le-ltb c.args.x c.args.unit (omega arith))
