-- Document 01's floor, in which each carrier has one goal cell: its checks by that document's letter, and the same floor in today's form.
use Rattle.std.specs.Prelude.{ℕ, ◌+◌, ◌*◌, Bool, ◌&&◌, not, List, [], ◌∷◌, length, get_or, replicate, ltb}
use Rattle.laws.specs.Verdict.{Verdict, ◌then◌, demand, demand_each, All}
use Rattle.floor.specs.declared.Floor.{Floor}
use Rattle.floor.specs.Checks.{within, long_enough, rises, among}
use Rattle.floor.specs.Accepted.{Absent}

-- A floor by document 01: a start and a goal a carrier.
pub record OneDockFloor : Type 0 where
  pub width : ℕ
  pub height : ℕ
  pub horizon : ℕ
  pub depth : ℕ
  pub carriers : ℕ
  pub walls : ℕ
  pub starts : List ℕ
  pub goals : List ℕ

-- Each goal at the first of four places of docks.
unfoldable pub one_each : List ℕ → List ℕ
one_each [] = []
one_each (x ∷ xs) = x ∷ 0 ∷ 0 ∷ 0 ∷ one_each xs

-- The same floor with a list of docks a carrier, which holds its goal and nothing else.
unfoldable pub with_one_dock : OneDockFloor → Floor
with_one_dock old =
    record {
      width = old.width;
      height = old.height;
      horizon = old.horizon;
      depth = old.depth;
      carriers = old.carriers;
      walls = old.walls;
      starts = old.starts;
      counts = replicate 8 1;
      docks = one_each old.goals;
    }

-- 2: the six values of line 1 lie within their limits.
unfoldable pub earlier_limits : OneDockFloor → Verdict
earlier_limits old =
    demand (within 1 32 old.width) 2 1
    then demand (within 1 32 old.height) 2 2
    then demand (within 1 63 old.horizon) 2 3
    then demand (within 1 4 old.depth) 2 4
    then demand (within 1 8 old.carriers) 2 5
    then demand (within 0 1023 old.walls) 2 6

-- A cell number lies in the grid.
unfoldable pub earlier_inside : OneDockFloor → ℕ → Bool
earlier_inside old c = ltb c (old.width * old.height)

-- Both cells of carrier i lie in the grid.
unfoldable pub both_inside : OneDockFloor → ℕ → Bool
both_inside old i = earlier_inside old (get_or old.starts i 0) && earlier_inside old (get_or old.goals i 0)

-- 3: every cell lies in the grid, the carriers' first (items 1 to n), then the walls'.
unfoldable pub earlier_carriers : OneDockFloor → Verdict
earlier_carriers old = demand_each 3 1 (both_inside old) old.carriers

unfoldable pub earlier_walls : OneDockFloor → List ℕ → Verdict
earlier_walls old ws = demand_each 3 (old.carriers + 1) (λ j. earlier_inside old (get_or ws j 0)) old.walls

-- 4: the walls' cell numbers rise strictly.
unfoldable pub earlier_rising : OneDockFloor → List ℕ → Verdict
earlier_rising old ws = demand_each 4 (old.carriers + 1) (rises ws) old.walls

-- Neither the start nor the goal of carrier i is a wall.
unfoldable pub both_clear : OneDockFloor → List ℕ → ℕ → Bool
both_clear old ws i = not (among ws old.walls (get_or old.starts i 0)) && not (among ws old.walls (get_or old.goals i 0))

-- 5: no carrier starts or ends on a wall.
unfoldable pub earlier_clear : OneDockFloor → List ℕ → Verdict
earlier_clear old ws = demand_each 5 1 (both_clear old ws) old.carriers

-- No earlier carrier has the start of carrier i, and none has its goal.
unfoldable pub neither_shared : OneDockFloor → ℕ → Bool
neither_shared old i = not (among old.starts i (get_or old.starts i 0)) && not (among old.goals i (get_or old.goals i 0))

-- 6: no two carriers share a start, and no two share a goal.
unfoldable pub earlier_distinct : OneDockFloor → Verdict
earlier_distinct old = demand_each 6 1 (neither_shared old) old.carriers

-- All of document 01's checks of a floor given as a record, in their order.
unfoldable pub earlier_check : OneDockFloor → List ℕ → Verdict
earlier_check old ws =
    earlier_limits old
    then long_enough old.walls (length ws)
    then earlier_carriers old
    then earlier_walls old ws
    then earlier_rising old ws
    then earlier_clear old ws
    then earlier_distinct old

-- No earlier carrier has the goal of a carrier that is there.
abbrev pub GoalsDistinct : OneDockFloor → Type 0
GoalsDistinct old = All (λ (i : ℕ). Absent old.goals i (get_or old.goals i 0)) old.carriers
