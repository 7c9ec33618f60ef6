-- Which memories are states of a floor (document 01, refusal 10): no number outside its range, no cell outside the grid, and 0 in every
-- unused place: a route's after beat H, a channel's past its messages, a route's where there is none.
use Rattle.std.specs.Prelude.{ℕ, ◌+◌, ◌*◌, Bool, ◌&&◌, cond, List, leb, ltb, eqb, get_or}
use Rattle.floor.specs.declared.Floor.{Floor}
use Rattle.floor.specs.Checks.{within}
use Rattle.laws.specs.Verdict.{each}
use Rattle.encoding.specs.Places.{planned_place, due_place, answer_place, view_place, channel_place}

-- How many cells of a record are used: those of beats 0 to H where its tag is a route's, otherwise none.
unfoldable pub used_by : ℕ → ℕ → ℕ
used_by tag horizon = cond (eqb tag 2) (horizon + 1) 0

-- The number x at beat t: a cell of the grid while cells are used, 0 behind.
unfoldable pub cell_valid : ℕ → ℕ → ℕ → ℕ → Bool
cell_valid used cells t x = cond (ltb t used) (ltb x cells) (eqb x 0)

-- The 64 numbers from a place on.
unfoldable pub cells_valid : List ℕ → ℕ → ℕ → ℕ → Bool
cells_valid m at used cells = each 64 (λ t. cell_valid used cells t (get_or m (at + t) 0))

-- The record at a place, its tag being within low to high (0 not heard, 1 none, 2 a route).
unfoldable pub record_valid : Floor → List ℕ → ℕ → ℕ → ℕ → Bool
record_valid f m at low high =
    within low high (get_or m at 0) && cells_valid m (at + 1) (used_by (get_or m at 0) f.horizon) (f.width * f.height)

-- Carrier i: planned and due are 0 or 1, and its answer is none or a route.
unfoldable pub carrier_valid : Floor → List ℕ → ℕ → Bool
carrier_valid f m i =
    leb (get_or m (planned_place i) 0) 1 && (leb (get_or m (due_place i) 0) 1 && record_valid f m (answer_place i) 1 2)

-- Place p of a channel that counts its messages: a message, none or a route, or unused.
unfoldable pub place_valid : Floor → List ℕ → ℕ → ℕ → ℕ → Bool
place_valid f m at count p =
    record_valid f m (at + 65 * p) (cond (ltb p count) 1 0) (cond (ltb p count) 2 0)

-- The channel at a place has 0 to depth messages, and zeros behind them.
unfoldable pub channel_valid : Floor → List ℕ → ℕ → Bool
channel_valid f m at = leb (get_or m at 0) f.depth && each 4 (place_valid f m (at + 1) (get_or m at 0))

-- The view that carrier i has of carrier j, and the channel between them.
unfoldable pub pair_valid : Floor → List ℕ → ℕ → ℕ → Bool
pair_valid f m i j = record_valid f m (view_place f.carriers i j) 0 2 && channel_valid f m (channel_place f.carriers i j)

-- The taken count is 0 to 999,999.
unfoldable pub count_valid : List ℕ → Bool
count_valid m = ltb (get_or m 0 0) 1000 && ltb (get_or m 1 0) 1000

-- The memory is a state of the floor.
unfoldable pub valid : Floor → List ℕ → Bool
valid f m = count_valid m && (each f.carriers (carrier_valid f m) && each f.carriers (λ i. each i (pair_valid f m i)))
