-- `sheet::places_over` meets its contract: the floor check over the walls read, with unused places behind them, is checks 3 to 17
-- (`checked_places`).
use Rattle.floor.specs.Checks.{check_of}
use mathlib.Core.Path.{ap₂, ap, ◌∙◌}
use Rattle.floor.specs.declared.Floor.{Floor}
use Rattle.sheet.proofs.FormLaws.{walls_read, checked_places}
use Rattle.sheet.proofs.SheetText.{walls_there}
use native.Mathlib.Omega.{arith}
use Rattle.sheet.proofs.places_over.Goals as goal

pub walls-requires : goal.walls-requires
walls-requires c =
    let f = c.requires.text_value.1 in
    let w = walls_there _ c.requires.text_value.0 _ f (omega (arith, c.requires.walls_in_bounds, ap (λ (f : Floor). f.walls) f)) in
    record { width_bound = w.0; carriers_bound = w.1.0; walls_in_bounds = w.1.1 }

pub returns : goal.returns
returns c =
    let f = c.requires.text_value.1 in
    c.check.ensures ∙ ap₂ check_of f (walls_read _ _ f c.walls.ensures) ∙ checked_places _ _ c.requires.text_value.0
