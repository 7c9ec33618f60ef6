-- The law of `rises` past the first wall, as the code tests it.
use Prim.Native.Nat.{ℕ, suc, zero, ◌-◌}
use native.Mathlib.Numerals.{sub-one}
use mathlib.Core.Path.{◌≡◌, refl}
use mathlib.Core.List.{List}
use lib.ListN.{get_or}
use lib.Dec.{ltb}
use Rattle.floor.specs.Checks.{rises}

-- A wall that is not the first is compared with the one before it.
pub rises_past_first : (ws : List ℕ) (j : ℕ) → (j ≡ 0 → ⊥) → ltb (get_or ws (j - 1) 0) (get_or ws j 0) ≡ rises ws j
unfolding rises
rises_past_first ws zero n = absurd (n refl)
rises_past_first ws (suc j) n = rw sub-one
