-- A search by sets of cells, over any rule of moves: what its passes have to show. F t is the set of cells that can be reached
-- by beat t, B t a set of cells from which a dock can be reached by the arrival. `SetsBest.antt` has what follows.
use Prim.Native.Nat.{ℕ, suc, ◌≤◌, ◌<◌}
use mathlib.Core.Bool.{Bool, true}
use mathlib.Core.Logic.{◌↔◌}
use mathlib.Core.Path.{◌≡◌}
use Rattle.route.specs.Search.{Rule}

-- A family of sets of cells, one a beat.
abbrev pub Sets : Type 0
Sets = ℕ → ℕ → Bool

-- Some cell of the set at beat t leads to d at beat t + 1.
abbrev pub Reached : Rule → Sets → ℕ → ℕ → Type 0
Reached ok F t d = (c : ℕ) × (F t c ≡ true) × (ok t c d ≡ true)

-- Cell c at beat t leads to some cell of the set at beat t + 1.
abbrev pub Leading : Rule → Sets → ℕ → ℕ → Type 0
Leading ok B t c = (d : ℕ) × (ok t c d ≡ true) × (B (suc t) d ≡ true)

-- Forward pass: F holds the cells that can be reached from the start, through beat n.
pub record Forward (ok : Rule) (start n : ℕ) (F : Sets) : Type 0 where
  pub begins : (c : ℕ) → (F 0 c ≡ true) ↔ (c ≡ start)
  pub spreads : (t d : ℕ) → t < n → (F (suc t) d ≡ true) ↔ Reached ok F t d

-- Cell d is a dock and can be held from beat a through beat H.
pub record Ending (ok : Rule) (dock : ℕ → Bool) (H a d : ℕ) : Type 0 where
  pub docks : dock d ≡ true
  pub holds : (t : ℕ) → a ≤ t → t < H → ok t d d ≡ true

-- Beat a is an arrival: a dock is reached by then that can be held from then on.
pub record Reaches (ok : Rule) (dock : ℕ → Bool) (H : ℕ) (F : Sets) (a : ℕ) : Type 0 where
  pub where_to : ℕ
  pub reached : F a where_to ≡ true
  pub ending : Ending ok dock H a where_to

-- Beat a is the least arrival.
pub record Least (ok : Rule) (dock : ℕ → Bool) (H : ℕ) (F : Sets) (a : ℕ) : Type 0 where
  pub within : a ≤ H
  pub reaches : Reaches ok dock H F a
  pub none_before : (b : ℕ) → b < a → Reaches ok dock H F b → ⊥

-- Backward pass: B holds only cells that lead to a dock that can be held from beat a on, and all of F that do.
pub record Backward (ok : Rule) (dock : ℕ → Bool) (H a : ℕ) (F B : Sets) : Type 0 where
  pub ends : (c : ℕ) → B a c ≡ true → Ending ok dock H a c
  pub begins : (c : ℕ) → F a c ≡ true → Ending ok dock H a c → B a c ≡ true
  pub leads : (t c : ℕ) → t < a → B t c ≡ true → Leading ok B t c
  pub holds : (t c : ℕ) → t < a → F t c ≡ true → Leading ok B t c → B t c ≡ true

-- Greedy walk: where some allowed cell of B comes next, φ takes the smallest; from beat a through H it stays.
pub record Greedy (ok : Rule) (start H a : ℕ) (B : Sets) (φ : ℕ → ℕ) : Type 0 where
  pub begins : φ 0 ≡ start
  pub takes : (t d : ℕ) → t < a → ok t (φ t) d ≡ true → B (suc t) d ≡ true →
      (ok t (φ t) (φ (suc t)) ≡ true) × (B (suc t) (φ (suc t)) ≡ true) × (φ (suc t) ≤ d)
  pub stays : (t : ℕ) → a ≤ t → t < H → φ (suc t) ≡ φ t
