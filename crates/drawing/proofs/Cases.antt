-- Drawings computed from the definitions: document 01's grid of 3 by 2 with a wall in cell 4.
use mathlib.Core.List.{[], ◌∷◌}
use mathlib.Core.Path.{◌≡◌, refl}
use lib.ListN.{replicate}
use Rattle.floor.specs.declared.Floor.{Floor}
use Rattle.floor.specs.Checks.{among}
use Rattle.floor.specs.OneDock.{with_one_dock}
use Rattle.drawing.specs.Drawing.{mark_with, carrier_mark, cell_mark, drawn_byte, drawn_bytes, drawn_floor}

abbrev grid : Floor
grid =
    with_one_dock (record {
      width = 3;
      height = 2;
      horizon = 4;
      depth = 1;
      carriers = 2;
      walls = 1;
      starts = 0 ∷ 2 ∷ replicate 6 0;
      goals = 2 ∷ 0 ∷ replicate 6 0;
    })

-- Carrier 1 in cell 0, carrier 2 in cell 2: `1.2` and `.#.`.
apart : drawn_floor grid (4 ∷ []) (0 ∷ 2 ∷ replicate 6 65535) ≡ 49 ∷ 46 ∷ 50 ∷ 10 ∷ 46 ∷ 35 ∷ 46 ∷ 10 ∷ []
unfolding with_one_dock among mark_with carrier_mark cell_mark drawn_byte drawn_bytes drawn_floor
apart = refl

-- Both in cell 5: `...` and `.#*`.
together : drawn_floor grid (4 ∷ []) (5 ∷ 5 ∷ replicate 6 65535) ≡ 46 ∷ 46 ∷ 46 ∷ 10 ∷ 46 ∷ 35 ∷ 42 ∷ 10 ∷ []
unfolding with_one_dock among mark_with carrier_mark cell_mark drawn_byte drawn_bytes drawn_floor
together = refl
