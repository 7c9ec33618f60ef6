-- `sheet::places_of` meets its contract: in good form there are at most 1023 walls.
use Rattle.sheet.specs.Values.{head_at, floor_at}
use Rattle.sheet.proofs.FormLaws.{form_tells}
use Rattle.floor.specs.declared.Floor.{Floor}
use mathlib.Core.Path.{ap}
use native.Mathlib.Omega.{arith}
use Rattle.sheet.proofs.places_of.Goals as goal

pub places_over-requires-2 : goal.places_over-requires-2
unfolding head_at floor_at
places_over-requires-2 c =
    let most = (form_tells _ c.requires.0).bounds.walls.1 in record {
      text_value = c.requires;
      walls_in_bounds = omega (arith, most, ap (λ (f : Floor). f.walls) c.requires.1, c.no_walls-cells.ensures);
    }
