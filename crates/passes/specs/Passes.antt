-- The passes of a search: forward from the start to the least arrival, backward from there to what leads to a dock. A table of the free
-- table and the docks are all that they know.
use Rattle.std.specs.Prelude.{ℕ, ◌+◌, ◌-◌, ◌/◌, ◌%◌, ◌≤◌, ◌<◌, Bool, true, List, ◌≡◌}
use Rattle.layers.specs.declared.SearchGrid.{SearchGrid}
use Rattle.layers.specs.Table.{Tidy}
use Rattle.layers.specs.Step.{Alone, Spread}
use Rattle.passes.specs.declared.docks.Docks.{Docks}
use Rattle.passes.specs.Docks.{EndsAt}

-- The rows and the columns between two cells.
unfoldable pub manhattan_of : ℕ → ℕ → ℕ → ℕ
manhattan_of w c d = (c / w - d / w) + (d / w - c / w) + ((c % w - d % w) + (d % w - c % w))

-- The sets through beat n are what the start reaches in the free table.
pub record ForwardReachable (g : SearchGrid) (table : List ℕ) (start n : ℕ) (sets : List ℕ) : Type 0 where
  pub tidy : Tidy g sets
  pub begins : Alone g sets 0 start
  pub spreads : (t : ℕ) → t < n → Spread g table sets t (t + 1)

-- The same through beat a, or through the horizon where a is past that.
abbrev pub ForwardReachableTo : SearchGrid → List ℕ → ℕ → ℕ → List ℕ → Type 0
ForwardReachableTo g table start a sets = (n : ℕ) → n ≤ a → n ≤ g.horizon → ForwardReachable g table start n sets

-- The sets from beat n through beat a are what leads in the free table to a dock that can be held from beat a on.
pub record BackwardReachable (g : SearchGrid) (table : List ℕ) (ds : Docks) (a n : ℕ) (sets : List ℕ) : Type 0 where
  pub tidy : Tidy g sets
  pub ends : EndsAt g sets ds a ds.count
  pub spreads : (t : ℕ) → n ≤ t → t < a → Spread g table sets (t + 1) t

-- a is the first number below n that passes a test, or n.
pub record Earliest (φ : ℕ → Bool) (n a : ℕ) : Type 0 where
  pub upto : a ≤ n
  pub none_before : (b : ℕ) → b < a → φ b ≡ true → ⊥
  pub passes : a < n → φ a ≡ true
