-- `sheet::values::value` meets its contract: the number, cut at 65535.
use Rattle.sheet.specs.Values.{value_at}
use Rattle.sheet.proofs.values.value.Goals as goal

pub returns : goal.returns
unfolding value_at
returns c = rw (← c.number.ensures) c.min.ensures
