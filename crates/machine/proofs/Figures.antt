-- The handbook's figures, as the code has them.
use Prim.Native.Nat.{ℕ}
use mathlib.Core.List.{List, [], ◌∷◌}

-- The table of the code.
unfoldable pub figures : List ℕ
figures = 1 ∷ 4 ∷ 11 ∷ 26 ∷ 57 ∷ 120 ∷ 247 ∷ 502 ∷ []
