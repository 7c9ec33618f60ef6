-- The floors of document 01's cases ('Floors to try'), their calls and their routes.
use Rattle.std.specs.Prelude.{ℕ, ◌-◌, true, false, List, [], ◌∷◌, ◌++◌, map, length, replicate}
use Rattle.floor.specs.declared.Floor.{Floor}
use Rattle.floor.specs.OneDock.{OneDockFloor, with_one_dock}
use Rattle.route.specs.Route.{Answer, none, route, unheard}
use Rattle.reference.specs.State.{Machine, State, fresh}
use Rattle.reference.specs.Table.{Call, single, run_of}
use Rattle.encoding.specs.Numbers.{asked_by}
use Rattle.encoding.specs.Calls.{machine_of}

-- A list filled up with zeros: the 8 places of starts and goals, and the 64 cells of a route.
abbrev pub padded : ℕ → List ℕ → List ℕ
padded k xs = xs ++ replicate (k - length xs) 0

-- A floor of width by height: its horizon, the depth of its channels, how many walls, and the starts of its carriers with the one dock of
-- each.
abbrev pub floor_with : ℕ → ℕ → ℕ → ℕ → ℕ → List ℕ → List ℕ → Floor
floor_with width height horizon depth walls starts goals =
    with_one_dock (record {
      width = width;
      height = height;
      horizon = horizon;
      depth = depth;
      carriers = length starts;
      walls = walls;
      starts = padded 8 starts;
      goals = padded 8 goals;
    })

-- Lists of docks in a record: four places each, filled up with zeros.
unfoldable pub docks_in : List (List ℕ) → List ℕ
docks_in [] = []
docks_in (docks ∷ others) = padded 4 docks ++ docks_in others

-- A grid of 3 by 2 for a number of walls, with a list of docks a carrier (document 02, slip 10), the dock counts as given.
abbrev pub counted_of : ℕ → List ℕ → List ℕ → List (List ℕ) → Floor
counted_of walls starts counts docks =
    record {
      width = 3;
      height = 2;
      horizon = 4;
      depth = 1;
      carriers = length starts;
      walls = walls;
      starts = padded 8 starts;
      counts = padded 8 counts;
      docks = padded 32 (docks_in docks);
    }

-- The same with each list's length as its dock count.
abbrev pub docked_of : ℕ → List ℕ → List (List ℕ) → Floor
docked_of walls starts docks = counted_of walls starts (map length docks) docks

-- Two carriers with one goal cell in common, by document 01.
abbrev pub common : OneDockFloor
common =
    record {
      width = 3;
      height = 2;
      horizon = 4;
      depth = 1;
      carriers = 2;
      walls = 0;
      starts = padded 8 (0 ∷ 3 ∷ []);
      goals = padded 8 (2 ∷ 2 ∷ []);
    }

-- One cell, one carrier.
abbrev pub cell : Floor
cell = floor_with 1 1 4 1 0 (0 ∷ []) (0 ∷ [])

-- The floor of document 01's sheet, for a horizon: two carriers change sides.
abbrev pub sides : ℕ → Floor
sides horizon = floor_with 3 2 horizon 1 0 (0 ∷ 2 ∷ []) (2 ∷ 0 ∷ [])

-- The reference machine of that sheet.
abbrev pub two : Machine
two = machine_of (sides 4) []

-- Two carriers that do not meet: each goes along a row of its own.
abbrev pub rows : Floor
rows = floor_with 3 2 4 1 0 (0 ∷ 3 ∷ []) (2 ∷ 5 ∷ [])

-- Three carriers, for a depth.
abbrev pub three : ℕ → Floor
three depth = floor_with 3 2 4 depth 0 (0 ∷ 2 ∷ 3 ∷ []) (2 ∷ 0 ∷ 5 ∷ [])

-- A corridor of five cells with a wall in cell 3: carrier 1, in cell 1, has its goal behind it; carrier 2 goes from cell 0 to a goal.
abbrev pub walled_off : ℕ → Floor
walled_off goal = floor_with 5 1 4 1 1 (1 ∷ 0 ∷ []) (4 ∷ goal ∷ [])

-- A corridor of five cells: carrier 1 stands in cell 3, carrier 2 in cell 1 has its goal behind it, carrier 3 has cell 1 before it.
abbrev pub corridor : Floor
corridor = floor_with 5 1 2 1 0 (3 ∷ 1 ∷ 0 ∷ []) (3 ∷ 4 ∷ 2 ∷ [])

-- Two rows of four cells with walls in 2 and 7, which shut in carrier 1's goal, 3; carrier 1's start is on carrier 2's way.
abbrev pub shut_goal : Floor
shut_goal = floor_with 4 2 4 1 2 (1 ∷ 0 ∷ []) (3 ∷ 6 ∷ [])

-- A corridor of three cells: carrier 1 goes through, and carrier 2 in its middle cannot get past it.
abbrev pub crossed : Floor
crossed = floor_with 3 1 2 1 0 (0 ∷ 1 ∷ []) (2 ∷ 0 ∷ [])

-- The floor of document 02's slip 9, for a horizon: a corridor of three cells, carrier 2 behind carrier 1.
abbrev pub carrier_behind : ℕ → Floor
carrier_behind horizon = floor_with 3 1 horizon 1 0 (1 ∷ 0 ∷ []) (2 ∷ 1 ∷ [])

-- The same with carrier 1 behind carrier 2.
abbrev pub in_front : ℕ → Floor
in_front horizon = floor_with 3 1 horizon 1 0 (0 ∷ 1 ∷ []) (1 ∷ 2 ∷ [])

-- The fresh state with none under way on every channel.
abbrev pub crowded : State
crowded =
    record {
      planned = λ i. false;
      due = λ i. true;
      answer = λ i. none;
      view = λ i j. unheard;
      chan = λ i j. none ∷ [];
      taken = 0;
    }

-- One carrier beside one wall.
abbrev pub walled : Floor
walled = floor_with 3 2 4 1 1 (0 ∷ []) (2 ∷ [])

-- A route by its first cells.
abbrev pub route_of : List ℕ → Answer
route_of cells = route (padded 64 cells)

-- The answers of floor 2.
abbrev pub answers2 : List Answer
answers2 = route_of (0 ∷ 1 ∷ 2 ∷ 2 ∷ 2 ∷ []) ∷ route_of (2 ∷ 5 ∷ 4 ∷ 1 ∷ 0 ∷ []) ∷ []

-- Single steps, and a run, by the numbers of their steps (102 is plan 2, 212 is deliver 1 to 2), with memory enough for three carriers.
abbrev pub singles : List ℕ → List Call
singles xs = map (λ x. single 2000 (asked_by x)) xs

abbrev pub running : List ℕ → ℕ → List Call
running xs b = run_of 2000 (map asked_by xs) b ∷ []

-- The calls of floors 4 and 9, and of floor 5.
abbrev pub calls4 : List Call
calls4 = singles (102 ∷ 101 ∷ 212 ∷ 102 ∷ [])

abbrev pub calls5 : List Call
calls5 = singles (101 ∷ 212 ∷ 102 ∷ [])

-- The longest that three carriers can go on: each message of a carrier is heard before it plans again.
abbrev pub longest : List Call
longest = singles (103 ∷ 102 ∷ 223 ∷ 103 ∷ 101 ∷ 212 ∷ 102 ∷ 223 ∷ 103 ∷ 213 ∷ 103 ∷ [])

-- Three carriers with depth 2: carrier 2 has sent its first route to carrier 3 and is due again, since it has heard of carrier 1.
abbrev pub heard_again : List ℕ
heard_again = 102 ∷ 101 ∷ 212 ∷ []

-- The fresh state with the largest count.
abbrev pub full : State
full =
    record {
      planned = fresh.planned;
      due = fresh.due;
      answer = fresh.answer;
      view = fresh.view;
      chan = fresh.chan;
      taken = 999999;
    }
