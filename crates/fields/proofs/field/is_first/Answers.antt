-- `fields::field::is_first` meets its contract: a range of bytes.
use Rattle.floor.specs.Checks.{within}
use Rattle.std.proofs.Common.{rules, tests}
use Rattle.fields.proofs.field.is_first.Goals as goal

pub returns : goal.returns
unfolding within
returns c = rw (c.contains.ensures.value, c.new.ensures.start, c.new.ensures.end, c.new.ensures.exhausted) (search (rules, tests))
