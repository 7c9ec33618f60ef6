-- Cases computed from the definitions: searches of document 01's floors 1 to 3, the mistakes of 'What a hasty builder does', the floor of
-- document 02's slip 9 with its neighbours, and searches with several docks (slip 10).
use Prim.Native.Nat.{ℕ}
use mathlib.Core.Bool.{true, ◌||◌}
use mathlib.Core.List.{List, [], ◌∷◌}
use mathlib.Core.Path.{◌≡◌, refl}
use lib.Dec.{eqb}
use lib.ListN.{replicate}
use Rattle.route.specs.Route.{cell_at, none, route, unheard, heard, Task}
use Rattle.route.specs.Moves.{neighbours, near, vacant, every, standable, allowed, start_clear}
use Rattle.route.specs.Search.{cost, cheaper, cheapest, holds, ended, val, onward, walk, walk_from, best}

-- A grid of a width with no wall, for a number of cells, a horizon, a start and a goal.
abbrev grid : ℕ → ℕ → ℕ → ℕ → ℕ → Task
grid w n h k d = record { width = w; cells = n; horizon = h; start = k; dock = λ c. eqb c d; free = λ c. true }

-- Document 01's floor of 3 by 2 with no wall, for a horizon, a start and a goal.
abbrev small : ℕ → ℕ → ℕ → Task
small h k d = grid 3 6 h k d

-- A route of five cells, with zeros up to 64.
abbrev five : ℕ → ℕ → ℕ → ℕ → ℕ → List ℕ
five c₁ c₂ c₃ c₄ c₅ = c₁ ∷ c₂ ∷ c₃ ∷ c₄ ∷ c₅ ∷ replicate 59 0

-- A route of three cells, with zeros up to 64.
abbrev three : ℕ → ℕ → ℕ → List ℕ
three a b c = a ∷ b ∷ c ∷ replicate 61 0

-- Floor 1: one cell.
one_cell : best (grid 1 1 4 0 0) [] ≡ route (five 0 0 0 0 0)
unfolding cell_at neighbours near vacant every standable allowed start_clear cost cheaper cheapest holds ended val onward walk walk_from best
one_cell = refl

-- Floor 2, carrier 1.
first_carrier : best (small 4 0 2) [] ≡ route (five 0 1 2 2 2)
unfolding cell_at neighbours near vacant every standable allowed start_clear cost cheaper cheapest holds ended val onward walk walk_from best
first_carrier = refl

-- Floor 2, carrier 2: it neither changes places with carrier 1 nor crosses its goal.
second_carrier : best (small 4 2 0) (heard (route (five 0 1 2 2 2)) ∷ []) ≡ route (five 2 5 4 1 0)
unfolding cell_at neighbours near vacant every standable allowed start_clear cost cheaper cheapest holds ended val onward walk walk_from best
second_carrier = refl

-- Floor 3, the same with horizon 3.
second_carrier_short : best (small 3 2 0) (heard (route (0 ∷ 1 ∷ 2 ∷ 2 ∷ replicate 60 0)) ∷ []) ≡ none
unfolding cell_at neighbours near vacant every standable allowed start_clear cost cheaper cheapest holds ended val onward walk walk_from best
second_carrier_short = refl

-- Not heard occupies nothing, nor does none as it stands; what a heard none is seen as is said in crate `records`.
unheard_not_blocked : best (small 4 2 0) (unheard ∷ heard none ∷ []) ≡ route (five 2 1 0 0 0)
unfolding cell_at neighbours near vacant every standable allowed start_clear cost cheaper cheapest holds ended val onward walk walk_from best
unheard_not_blocked = refl

-- A corridor of three cells: a carrier at its goal, cell 1, blocks the way from beat 1 on.
goal_held : best (grid 3 3 4 0 2) (heard (route (five 1 1 1 1 1)) ∷ []) ≡ none
unfolding cell_at neighbours near vacant every standable allowed start_clear cost cheaper cheapest holds ended val onward walk walk_from best
goal_held = refl

-- A corridor of two cells: the carriers may not change places.
places_kept : best (grid 2 2 4 0 1) (heard (route (five 1 0 0 0 0)) ∷ []) ≡ none
unfolding cell_at neighbours near vacant every standable allowed start_clear cost cheaper cheapest holds ended val onward walk walk_from best
places_kept = refl

-- Document 02, slip 9: a corridor of three cells with horizon 2; the other goes from 1 to 2, and its cell is entered a beat later.
kept_behind : best (grid 3 3 2 0 1) (heard (route (three 1 2 2)) ∷ []) ≡ route (three 0 0 1)
unfolding cell_at neighbours near vacant every standable allowed start_clear cost cheaper cheapest holds ended val onward walk walk_from best
kept_behind = refl

-- The same where the other leaves at the horizon only: no beat is left.
kept_behind_last : best (grid 3 3 2 0 1) (heard (route (three 1 1 2)) ∷ []) ≡ none
unfolding cell_at neighbours near vacant every standable allowed start_clear cost cheaper cheapest holds ended val onward walk walk_from best
kept_behind_last = refl

-- In front of the other: at beat 1 it comes into cell 1, so a carrier that is there at beat 0 has no route, with any goal.
kept_in_front : best (grid 3 3 2 1 2) (heard (route (three 0 1 1)) ∷ []) ≡ none
unfolding cell_at neighbours near vacant every standable allowed start_clear cost cheaper cheapest holds ended val onward walk walk_from best
kept_in_front = refl

-- Where it comes at the horizon, beat 2, the carrier has left a beat before.
left_in_front : best (grid 3 3 2 1 2) (heard (route (three 0 0 1)) ∷ []) ≡ route (three 1 2 2)
unfolding cell_at neighbours near vacant every standable allowed start_clear cost cheaper cheapest holds ended val onward walk walk_from best
left_in_front = refl

-- Not so where a third was in cell 2 at beat 0, which shuts it at beat 1: the carrier could leave cell 1 only at the horizon, as the other
-- comes in.
kept_in_front_last : best (grid 3 3 2 1 2) (heard (route (three 0 0 1)) ∷ heard (route (three 2 65535 65535)) ∷ []) ≡ none
unfolding cell_at neighbours near vacant every standable allowed start_clear cost cheaper cheapest holds ended val onward walk walk_from best
kept_in_front_last = refl

-- The numbers after the horizon, all 0, are no cells: cell 0 may be stood on at the horizon.
zeros_not_read : best (grid 3 3 2 1 0) (heard (route (three 2 2 2)) ∷ []) ≡ route (three 1 0 0)
unfolding cell_at neighbours near vacant every standable allowed start_clear cost cheaper cheapest holds ended val onward walk walk_from best
zeros_not_read = refl

-- The goal, cell 1, is taken at beat 2: the carrier waits until the other has left it, and arrives when it can stay.
goal_passed : best (grid 3 3 4 0 1) (heard (route (five 2 2 1 2 2)) ∷ []) ≡ route (five 0 0 0 0 1)
unfolding cell_at neighbours near vacant every standable allowed start_clear cost cheaper cheapest holds ended val onward walk walk_from best
goal_passed = refl

-- A grid with no wall and two docks, for a width, a number of cells, a horizon, a start and the docks.
abbrev docked : ℕ → ℕ → ℕ → ℕ → ℕ → ℕ → Task
docked w n h k x y =
    record { width = w; cells = n; horizon = h; start = k; dock = λ c. eqb c x || eqb c y; free = λ c. true }

-- A corridor of five cells with docks at its ends: the nearer one is gone to.
nearer_dock : best (docked 5 5 4 1 0 4) [] ≡ route (five 1 0 0 0 0)
unfolding cell_at neighbours near vacant every standable allowed start_clear cost cheaper cheapest holds ended val onward walk walk_from best
nearer_dock = refl

-- The nearer dock is taken: the carrier goes to the other.
nearer_dock_taken : best (docked 5 5 4 1 0 4) (heard (route (five 0 0 0 0 0)) ∷ []) ≡ route (five 1 2 3 4 4)
unfolding cell_at neighbours near vacant every standable allowed start_clear cost cheaper cheapest holds ended val onward walk walk_from best
nearer_dock_taken = refl

-- Both docks are taken.
all_docks_taken : best (docked 5 5 4 1 0 4) (heard (route (five 0 0 0 0 0)) ∷ heard (route (five 4 4 4 4 4)) ∷ []) ≡ none
unfolding cell_at neighbours near vacant every standable allowed start_clear cost cheaper cheapest holds ended val onward walk walk_from best
all_docks_taken = refl

-- Two docks beside each other, cells 2 and 3, reached from 0: the walk stays at the first one reached.
first_dock_kept : best (docked 5 5 4 0 2 3) [] ≡ route (five 0 1 2 2 2)
unfolding cell_at neighbours near vacant every standable allowed start_clear cost cheaper cheapest holds ended val onward walk walk_from best
first_dock_kept = refl

-- The same from 4: it stays at 3, also where the smaller one is beside it.
larger_dock_kept : best (docked 5 5 4 4 2 3) [] ≡ route (five 4 3 3 3 3)
unfolding cell_at neighbours near vacant every standable allowed start_clear cost cheaper cheapest holds ended val onward walk walk_from best
larger_dock_kept = refl

-- A carrier that starts at a dock stays, also where the smaller one is beside it.
start_is_a_dock : best (docked 5 5 4 3 2 3) [] ≡ route (five 3 3 3 3 3)
unfolding cell_at neighbours near vacant every standable allowed start_clear cost cheaper cheapest holds ended val onward walk walk_from best
start_is_a_dock = refl

-- Dock 1 is taken at beat 3, so that it cannot be held: it is passed on the way to dock 2, where the route arrives at beat 2.
passed_dock : best (docked 3 6 4 0 1 2) (heard (route (five 5 5 4 1 4)) ∷ []) ≡ route (five 0 1 2 2 2)
unfolding cell_at neighbours near vacant every standable allowed start_clear cost cheaper cheapest holds ended val onward walk walk_from best
passed_dock = refl
