-- `abi::numbers::floor_of` meets its contract: each field from its place.
use Rattle.abi.specs.Record.{floor_of}
use mathlib.Core.Path.{refl}
use Rattle.abi.proofs.numbers.floor_of.Goals as goal

pub returns : goal.returns
unfolding floor_of
returns c = rw (c.taken.ensures, c.taken-2.ensures, c.taken-3.ensures) refl
