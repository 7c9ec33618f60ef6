-- Document 01's conditions on a floor as statements, beside the checks that compute them: what an accepted floor is, and for each row
-- of the table of refusals when a floor given as a record gets it. Carriers, walls and fields count from 0.
use Rattle.std.specs.Prelude.{ℕ, zero, suc, ◌*◌, ◌≤◌, ◌<◌, ◌≡◌, List, length, get_or}
use Rattle.laws.specs.Verdict.{All}
use Rattle.floor.specs.declared.Floor.{Floor}
use Rattle.floor.specs.Checks.{start_of, count_of, docks_of, dock_of, is_dock}

-- x lies within low to high.
abbrev pub Within : ℕ → ℕ → ℕ → Type 0
Within low high x = (low ≤ x) × (x ≤ high)

-- The value of field i of line 1 is within its limits.
unfoldable pub FieldWithin : Floor → ℕ → Type 0
FieldWithin f zero = Within 1 32 f.width
FieldWithin f (suc zero) = Within 1 32 f.height
FieldWithin f (suc (suc zero)) = Within 1 63 f.horizon
FieldWithin f (suc (suc (suc zero))) = Within 1 4 f.depth
FieldWithin f (suc (suc (suc (suc zero)))) = Within 1 8 f.carriers
FieldWithin f (suc (suc (suc (suc (suc i))))) = Within 0 1023 f.walls

-- A cell number lies in the grid.
abbrev pub InGrid : Floor → ℕ → Type 0
InGrid f c = c < f.width * f.height

-- The dock count of carrier i is within its limits.
abbrev pub CountWithin : Floor → ℕ → Type 0
CountWithin f i = Within 1 4 (count_of f i)

-- Carrier i has 1 to 4 docks, and its start and every dock lie in the grid; wall j does.
abbrev pub CarrierInGrid : Floor → ℕ → Type 0
CarrierInGrid f i = CountWithin f i × (InGrid f (start_of f i) × All (λ (k : ℕ). InGrid f (dock_of f i k)) (count_of f i))

abbrev pub WallInGrid : Floor → List ℕ → ℕ → Type 0
WallInGrid f ws j = InGrid f (get_or ws j 0)

-- Wall j has a higher cell number than the wall before it, if there is one.
abbrev pub Rises : List ℕ → ℕ → Type 0
Rises ws j = (k : ℕ) → suc k ≡ j → get_or ws k 0 < get_or ws j 0

-- Each of the first k numbers of xs is below every later one of them.
abbrev pub StrictlyRising : List ℕ → ℕ → Type 0
StrictlyRising xs k = (i j : ℕ) → i < j → j < k → get_or xs i 0 < get_or xs j 0

-- c is not among the first k numbers of xs.
abbrev pub Absent : List ℕ → ℕ → ℕ → Type 0
Absent xs k c = All (λ (i : ℕ). get_or xs i 0 ≡ c → ⊥) k

-- Neither the start nor a dock of carrier i is a wall.
abbrev pub ClearOfWalls : Floor → List ℕ → ℕ → Type 0
ClearOfWalls f ws i = Absent ws f.walls (start_of f i) × All (λ (k : ℕ). Absent ws f.walls (dock_of f i k)) (count_of f i)

-- No earlier carrier has the start of carrier i.
abbrev pub Unshared : Floor → ℕ → Type 0
Unshared f i = Absent f.starts i (start_of f i)

-- No dock of carrier i stands before in its list.
abbrev pub Unrepeated : Floor → ℕ → Type 0
Unrepeated f i = All (λ (k : ℕ). Absent (docks_of f i) k (dock_of f i k)) (count_of f i)

-- What each check asks, in the order of the checks.
abbrev pub Limited : Floor → Type 0
Limited f = All (FieldWithin f) 6

abbrev pub Lent : Floor → List ℕ → Type 0
Lent f ws = f.walls ≤ length ws

abbrev pub CountsWithin : Floor → Type 0
CountsWithin f = All (CountWithin f) f.carriers

abbrev pub CarriersInGrid : Floor → Type 0
CarriersInGrid f = All (CarrierInGrid f) f.carriers

abbrev pub WallsInGrid : Floor → List ℕ → Type 0
WallsInGrid f ws = All (WallInGrid f ws) f.walls

abbrev pub Rising : Floor → List ℕ → Type 0
Rising f ws = All (Rises ws) f.walls

abbrev pub Clear : Floor → List ℕ → Type 0
Clear f ws = All (ClearOfWalls f ws) f.carriers

abbrev pub Distinct : Floor → Type 0
Distinct f = All (Unshared f) f.carriers

abbrev pub AllUnrepeated : Floor → Type 0
AllUnrepeated f = All (Unrepeated f) f.carriers

-- A floor in which the checks find nothing.
pub record Accepted (f : Floor) (ws : List ℕ) : Type 0 where
  pub limited : Limited f
  pub lent : Lent f ws
  pub carriers_in_grid : CarriersInGrid f
  pub walls_in_grid : WallsInGrid f ws
  pub rising : Rising f ws
  pub clear : Clear f ws
  pub distinct : Distinct f
  pub unrepeated : AllUnrepeated f

-- Two records agree in the six values of line 1, the starts and the dock counts.
pub record SameOutline (f f' : Floor) : Type 0 where
  pub width : f.width ≡ f'.width
  pub height : f.height ≡ f'.height
  pub horizon : f.horizon ≡ f'.horizon
  pub depth : f.depth ≡ f'.depth
  pub carriers : f.carriers ≡ f'.carriers
  pub walls : f.walls ≡ f'.walls
  pub starts : All (λ (i : ℕ). start_of f i ≡ start_of f' i) f.carriers
  pub counts : All (λ (i : ℕ). count_of f i ≡ count_of f' i) f.carriers

-- Two records with their walls are the same floor: they agree in all that is part of it, which the places of a record past the
-- carrier count, of a carrier's docks past its dock count and of the walls past the wall count are not.
pub record SameFloor (f : Floor) (ws : List ℕ) (f' : Floor) (ws' : List ℕ) : Type 0 where
  pub outline : SameOutline f f'
  pub docks : All (λ (i : ℕ). All (λ (k : ℕ). dock_of f i k ≡ dock_of f' i k) (count_of f i)) f.carriers
  pub cells : All (λ (j : ℕ). get_or ws j 0 ≡ get_or ws' j 0) f.walls

-- Two records are floors that differ at most in the order of each carrier's docks.
pub record SameDocks (f f' : Floor) : Type 0 where
  pub outline : SameOutline f f'
  pub docks : All (λ (i : ℕ). (c : ℕ) → is_dock f i c ≡ is_dock f' i c) f.carriers
