-- Arrival as a function, beat by beat, as the code computes it.
use Rattle.std.specs.Prelude.{ℕ, zero, suc, true, false, List, eqb}
use Rattle.route.specs.Route.{cell_at}

-- The beat after the last of the first n beats at which r is not at cell c, or 0.
unfoldable pub settled : ℕ → List ℕ → ℕ → ℕ
settled c r zero = 0
settled c r (suc n) = elim (eqb (cell_at r n) c) [ true ↦ settled c r n | false ↦ suc n ]

-- The arrival of r: the least beat from which it is at its last cell through H.
unfoldable pub arrival_of : List ℕ → ℕ → ℕ
arrival_of r H = settled (cell_at r H) r H
