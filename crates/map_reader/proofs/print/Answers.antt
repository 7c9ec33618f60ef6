-- `map_reader::print` meets its contract: a sheet, or nothing.
use mathlib.Core.Logic.{inl, inr}
use mathlib.Core.Path.{refl}
use Rattle.map_reader.specs.Told.{SheetOrNothing}
use Rattle.map_reader.proofs.print.Goals as goal

pub returns-in-Ok-clause-tells : goal.returns-in-Ok-clause-tells
unfolding SheetOrNothing
returns-in-Ok-clause-tells c = inr c.in-Ok.ensures

pub returns-in-Err-clause-tells : goal.returns-in-Err-clause-tells
unfolding SheetOrNothing
returns-in-Err-clause-tells c = inl refl
