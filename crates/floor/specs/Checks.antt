-- The checks of a floor given as a record, in document 01's order ('Refused'). Carriers and walls count from 0 here;
-- `demand_each` gives the paper's places, which count from 1.
use Rattle.std.specs.Prelude.{ℕ, suc, zero, ◌+◌, ◌*◌, Bool, true, false, ◌&&◌, ◌||◌, not, List, length, get_or, leb, ltb, eqb}
use Rattle.floor.specs.declared.Floor.{Floor}
use Rattle.laws.specs.Memory.{part}
use Rattle.laws.specs.Verdict.{Verdict, ◌then◌, demand, demand_each, each}

-- x lies within low to high.
unfoldable pub within : ℕ → ℕ → ℕ → Bool
within low high x = leb low x && leb x high

-- 2: the six values of line 1 lie within their limits.
unfoldable pub limits_of : Floor → Verdict
limits_of f =
    demand (within 1 32 f.width) 2 1
    then demand (within 1 32 f.height) 2 2
    then demand (within 1 63 f.horizon) 2 3
    then demand (within 1 4 f.depth) 2 4
    then demand (within 1 8 f.carriers) 2 5
    then demand (within 0 1023 f.walls) 2 6

-- 9: lent memory is not too short.
unfoldable pub long_enough : ℕ → ℕ → Verdict
long_enough needed lent = demand (leb needed lent) 9 0

-- 9, right after 2: as many walls are lent as the floor counts.
unfoldable pub lent_of : Floor → List ℕ → Verdict
lent_of f ws = long_enough f.walls (length ws)

-- The start of carrier i, and its dock count.
unfoldable pub start_of : Floor → ℕ → ℕ
start_of f i = get_or f.starts i 0

unfoldable pub count_of : Floor → ℕ → ℕ
count_of f i = get_or f.counts i 0

-- The four places of the docks of carrier i; those past its dock count are no part of the floor.
unfoldable pub docks_of : Floor → ℕ → List ℕ
docks_of f i = part f.docks (4 * i) 4

-- Dock k of carrier i.
unfoldable pub dock_of : Floor → ℕ → ℕ → ℕ
dock_of f i k = get_or (docks_of f i) k 0

-- c is among the first n numbers of xs.
unfoldable pub among : List ℕ → ℕ → ℕ → Bool
among xs zero c = false
among xs (suc n) c = among xs n c || eqb (get_or xs n 0) c

-- c is one of the docks of carrier i.
unfoldable pub is_dock : Floor → ℕ → ℕ → Bool
is_dock f i c = among (docks_of f i) (count_of f i) c

-- A cell number lies in the grid.
unfoldable pub in_grid : Floor → ℕ → Bool
in_grid f c = ltb c (f.width * f.height)

-- Every dock of carrier i lies in the grid.
unfoldable pub docks_in_grid : Floor → ℕ → Bool
docks_in_grid f i = each (count_of f i) (λ k. in_grid f (dock_of f i k))

-- Carrier i has 1 to 4 docks, and its start and every dock lie in the grid.
unfoldable pub carrier_in_grid : Floor → ℕ → Bool
carrier_in_grid f i = within 1 4 (count_of f i) && (in_grid f (start_of f i) && docks_in_grid f i)

-- 3: every dock count is within its limits and every cell lies in the grid, the carriers' first (items 1 to n), then the walls'.
unfoldable pub carriers_of : Floor → Verdict
carriers_of f = demand_each 3 1 (carrier_in_grid f) f.carriers

unfoldable pub walls_of : Floor → List ℕ → Verdict
walls_of f ws = demand_each 3 (f.carriers + 1) (λ j. in_grid f (get_or ws j 0)) f.walls

-- Wall j is above the wall before it; the first has none before it.
unfoldable pub rises : List ℕ → ℕ → Bool
rises ws zero = true
rises ws (suc j) = ltb (get_or ws j 0) (get_or ws (suc j) 0)

-- 4: the walls' cell numbers rise strictly; the items are those of 3.
unfoldable pub rising_of : Floor → List ℕ → Verdict
rising_of f ws = demand_each 4 (f.carriers + 1) (rises ws) f.walls

-- No dock of carrier i is a wall.
unfoldable pub docks_clear : Floor → List ℕ → ℕ → Bool
docks_clear f ws i = each (count_of f i) (λ k. not (among ws f.walls (dock_of f i k)))

-- Neither the start nor a dock of carrier i is a wall.
unfoldable pub clear_of_walls : Floor → List ℕ → ℕ → Bool
clear_of_walls f ws i = not (among ws f.walls (start_of f i)) && docks_clear f ws i

-- 5: no carrier starts on a wall or has a dock on one.
unfoldable pub clear_of : Floor → List ℕ → Verdict
clear_of f ws = demand_each 5 1 (clear_of_walls f ws) f.carriers

-- No earlier carrier has the start of carrier i.
unfoldable pub unshared : Floor → ℕ → Bool
unshared f i = not (among f.starts i (start_of f i))

-- 6: no two carriers share a start.
unfoldable pub distinct_of : Floor → Verdict
distinct_of f = demand_each 6 1 (unshared f) f.carriers

-- No dock of carrier i stands before in its list.
unfoldable pub unrepeated : Floor → ℕ → Bool
unrepeated f i = each (count_of f i) (λ k. not (among (docks_of f i) k (dock_of f i k)))

-- 17: no carrier has a dock twice in its list.
unfoldable pub unrepeated_of : Floor → Verdict
unrepeated_of f = demand_each 17 1 (unrepeated f) f.carriers

-- The checks 3 to 6 and 17, which a sheet and a record have alike.
unfoldable pub places_of : Floor → List ℕ → Verdict
places_of f ws = carriers_of f then walls_of f ws then rising_of f ws then clear_of f ws then distinct_of f then unrepeated_of f

-- All checks of a floor given as a record, in their order.
unfoldable pub check_of : Floor → List ℕ → Verdict
check_of f ws = limits_of f then lent_of f ws then places_of f ws
