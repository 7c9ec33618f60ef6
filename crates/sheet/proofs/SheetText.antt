-- A sheet read and written is the same sheet.
use Prim.Native.Nat.{ℕ, zero, suc, ◌+◌, ◌*◌, ◌/◌, ◌%◌, ◌≤◌, ◌<◌}
use native.Mathlib.Omega.{arith}
use mathlib.Core.Path.{◌≡◌, refl, sym, ◌∙◌, ap₂}
use mathlib.Core.List.{List, [], ◌++◌, append-nil}
use lib.ListN.{length, get_or}
use Rattle.laws.specs.Verdict.{passed}
use Rattle.floor.specs.declared.Floor.{Floor}
use Rattle.floor.specs.Checks.{start_of, count_of, dock_of, places_of, check_of}
use Rattle.floor.specs.Accepted.{Accepted}
use Rattle.laws.proofs.VerdictLaws.{then_both, turn_passed}
use Rattle.floor.proofs.LimitsLaws.{Bounds, limited_bounds}
use Rattle.floor.proofs.Theorems.{theorems}
use Rattle.fields.specs.Field.{number_at}
use Rattle.fields.specs.Form.{line_form, counted_form, counted_length, past_pair, column_past, lines_form}
use Rattle.fields.proofs.ColumnLaws.{pair_columns}
use Rattle.sheet.specs.Text.{head_line, cell_numbers, carrier_line, wall_line, carrier_lines, wall_lines, sheet_of, carrier_at, wall_at}
use Rattle.sheet.specs.Text.{sheet_length}
use Rattle.sheet.specs.Form.{carrier_column, wall_column}
use Rattle.sheet.specs.Values.{value_at, cell_at_column, start_in, count_in, dock_in, place_in, starts_at, counts_at, docks_at, head_at, floor_at}
use Rattle.sheet.specs.Values.{walls_from, walls_at}
use Rattle.sheet.specs.Read.{form_of, sheet_verdict}
use Rattle.sheet.proofs.CellLaws.{value_number, cell_tells, cell_column, cell_row}
use Rattle.sheet.proofs.ListedLaws.{listed_at, up_to_at, up_to_below}
use Rattle.sheet.proofs.FormLaws.{Lined, lined, Formed, form_tells, checked_places}
use Rattle.laws.specs.Memory.{part}
use Rattle.laws.proofs.PartLaws.{part_split, part_whole}
use Rattle.sheet.proofs.LineLaws.{wall_length}
use Rattle.sheet.proofs.LineText.{numbers_from, line_text}
use Rattle.sheet.proofs.LinesText.{parts_lines}
use Rattle.sheet.proofs.CountedText.{counted_text}
use Rattle.sheet.proofs.DockLaws.{numbers_cells, carrier_length, carriers_behind, walls_behind, dock_place}
use Rattle.sheet.proofs.SheetLaws.{carriers_span, walls_span}

-- The cell at a column, written again, is the two numbers that stand there.
cell_again : (text : List ℕ) (w h at : ℕ) → w ≤ 32 → h ≤ 32 → cell_at_column text w h at < w * h
    → (cell_at_column text w h at % w ≡ number_at text at) × (cell_at_column text w h at / w ≡ number_at text (at + 5))
unfolding cell_at_column
cell_again text w h at a b l =
    let t = cell_tells w h (value_at text at) (value_at text (at + 5)) l in (
      rw t.cell (cell_column w _ _ t.column) ∙ value_number text at (omega (arith, t.column)),
      rw t.cell (cell_row w _ _ t.column) ∙ value_number text (at + 5) (omega (arith, t.row_in)),
    )

-- The first line's column; and the parts of a text, from the columns of lines.
first_column : (text : List ℕ) → 31 ≡ carrier_column text 0
unfolding carrier_column column_past
first_column text = refl

carriers_part : (text : List ℕ) (f : Floor) → part text (carrier_at f 0) (length (carrier_lines f)) ≡ carrier_lines f
    → part text 31 (length (carrier_lines f)) ≡ carrier_lines f
unfolding carrier_at
carriers_part text f h = h

walls_part : (text : List ℕ) (f : Floor) (ws : List ℕ) → part text (wall_at f 0) (length (wall_lines f ws)) ≡ wall_lines f ws
    → part text (31 + length (carrier_lines f)) (length (wall_lines f ws)) ≡ wall_lines f ws
unfolding wall_at
walls_part text f ws h =
    let e : carrier_at f f.carriers + 11 * 0 ≡ 31 + length (carrier_lines f) = omega (arith, carriers_span f ws) in
    rw e at h

-- Each wall's line is in good form where all are; line 1 counts the walls.
each_wall : (text : List ℕ) (f : Floor)
    → lines_form (λ (column : ℕ). line_form text column 2) past_pair (carrier_column text f.carriers) f.walls ≡ passed
    → (j : ℕ) → j < f.walls → line_form text (wall_column text f.carriers j) 2 ≡ passed
unfolding lines_form wall_column
each_wall text f h j l = turn_passed _ f.walls h j l

head_walls : (text : List ℕ) {j : ℕ} → j < (floor_at text).walls → j < (head_at text).walls
unfolding floor_at head_at
head_walls text l = l

last_wall : (text : List ℕ)
    → wall_column text (head_at text).carriers (floor_at text).walls ≡ carrier_column text (head_at text).carriers + 11 * (head_at text).walls
unfolding wall_column floor_at head_at
last_wall text = pair_columns _ _

grid_limits : (text : List ℕ) → Bounds (head_at text)
    → ((floor_at text).width ≤ 32) × (((floor_at text).height ≤ 32) × ((floor_at text).carriers ≤ 8))
unfolding floor_at head_at
grid_limits text b = (b.width.1, (b.height.1, b.carriers.1))

walls_end : (text : List ℕ) → length text ≡ carrier_column text (head_at text).carriers + 11 * (head_at text).walls
    → carrier_column text (floor_at text).carriers + 11 * (floor_at text).walls ≡ length text
unfolding floor_at head_at
walls_end text e = sym e

-- A carrier's line whose numbers are those of the floor, and a wall's.
carrier_text_lem : (text : List ℕ) (f : Floor) (i at n : ℕ) {start' : ℕ} → start_of f i ≡ start' → count_of f i ≡ n
    → (start' % f.width ≡ number_at text at) × (start' / f.width ≡ number_at text (at + 5))
    → numbers_from text (at + 15) (2 * n) ≡ cell_numbers f.width (dock_of f i) n → n ≡ number_at text (at + 10)
    → counted_form text at ≡ passed → part text at (counted_length (count_of f i)) ≡ carrier_line f i
unfolding carrier_line
carrier_text_lem text f i at n start' count start docks number form =
    rw (start', count, start.0, start.1, ← docks) (rw (← number) at (counted_text text at form))

wall_text : (text : List ℕ) (w c at : ℕ) → c % w ≡ number_at text at → c / w ≡ number_at text (at + 5) → line_form text at 2 ≡ passed
    → part text at 11 ≡ wall_line w c
unfolding wall_line numbers_from
wall_text text w c at col row form = line_text text at 2 form ∙ rw (col, row)

module _ (text : List ℕ) (formed : form_of text ≡ passed) where
  tells : Formed text
  tells = form_tells text formed

  head_form : line_form text 0 6 ≡ passed
  unfolding form_of
  head_form = (then_both _ _ formed).0

  -- Line 1, written again.
  head_again : part text 0 31 ≡ head_line (floor_at text)
  unfolding head_line floor_at head_at numbers_from
  head_again =
      let b = tells.bounds in
      rw (
        value_number text 0 (omega (arith, b.width.1)),
        value_number text 5 (omega (arith, b.height.1)),
        value_number text 10 (omega (arith, b.horizon.1)),
        value_number text 15 (omega (arith, b.depth.1)),
        value_number text 20 (omega (arith, b.carriers.1)),
        value_number text 25 (omega (arith, b.walls.1)),
      )
      (line_text text 0 6 head_form)

  -- A carrier's start, dock count and docks, and a wall's cell.
  line_at : (i : ℕ) → i < (floor_at text).carriers → Lined text (head_at text).carriers i
  unfolding floor_at head_at
  line_at i l = lined text (head_at text).carriers tells.carriers_form i l

  start_at : (i : ℕ) → i < (floor_at text).carriers
      → start_of (floor_at text) i ≡ cell_at_column text (floor_at text).width (floor_at text).height (carrier_column text i)
  unfolding start_of floor_at starts_at start_in head_at
  start_at i l = up_to_at _ _ 8 i l (omega (arith, tells.bounds.carriers.1))

  pub count_at : (i : ℕ) → i < (floor_at text).carriers → count_of (floor_at text) i ≡ count_in text i
  unfolding count_of floor_at counts_at head_at
  count_at i l = up_to_at _ _ 8 i l (omega (arith, tells.bounds.carriers.1))

  place_at : (i k : ℕ) → i < (floor_at text).carriers → k < count_in text i
      → get_or (floor_at text).docks (4 * i + k) 0
      ≡ cell_at_column text (floor_at text).width (floor_at text).height (carrier_column text i + 15 + 10 * k)
  unfolding floor_at docks_at place_in dock_in head_at
  place_at i k l g =
      let few = (line_at i l).most in
      let col : (4 * i + k) % 4 ≡ k = omega (arith, few, g) in
      let row : (4 * i + k) / 4 ≡ i = omega (arith, few, g) in
      listed_at _ 32 (4 * i + k) (omega (arith, tells.bounds.carriers.1, few, g, l))
      ∙ rw (col, row) (up_to_below _ _ i l ∙ up_to_below _ _ k g)

  dock_at : (i k : ℕ) → i < (floor_at text).carriers → k < count_in text i
      → dock_of (floor_at text) i k ≡ cell_at_column text (floor_at text).width (floor_at text).height (carrier_column text i + 15 + 10 * k)
  dock_at i k l g = dock_place (floor_at text) i k (omega (arith, (line_at i l).most, g)) ∙ place_at i k l g

  wall_at_lem : (j : ℕ) → j < (floor_at text).walls
      → get_or (walls_at text) j 0 ≡ cell_at_column text (floor_at text).width (floor_at text).height (wall_at (floor_at text) j)
  unfolding walls_at walls_from
  wall_at_lem j l = listed_at _ (floor_at text).walls j l

  -- The lines stand where the floor's dock counts say.
  pub carrier_column_lem : (i : ℕ) → i ≤ (floor_at text).carriers → carrier_at (floor_at text) i ≡ carrier_column text i
  unfolding carrier_at
  carrier_column_lem zero l = first_column text
  carrier_column_lem (suc i) l =
      rw (carrier_column_lem i (omega arith), count_at i (omega arith)) (sym (line_at i (omega arith)).end)

  pub wall_column_lem : (j : ℕ) → wall_at (floor_at text) j ≡ wall_column text (head_at text).carriers j
  unfolding wall_at wall_column floor_at head_at
  wall_column_lem j = rw (carrier_column_lem (floor_at text).carriers (omega arith), pair_columns _ j)

  -- A text in good form has as many walls as the lent memory holds.
  pub walls_there : {f : Floor} (lent : ℕ) → f ≡ floor_at text → (floor_at text).walls ≤ lent
      → ((f.width ≤ 32) × (f.height ≤ 32)) ×
      (((f.carriers ≤ 8) × (f.walls ≤ lent)) × (carrier_at f f.carriers + 11 * f.walls ≤ length text))
  walls_there lent e l = rw e ((head_limits.0, head_limits.1.0), ((head_limits.1.1, l), walls_reach))
    where
      head_limits : ((floor_at text).width ≤ 32) × (((floor_at text).height ≤ 32) × ((floor_at text).carriers ≤ 8))
      head_limits = grid_limits text tells.bounds

      walls_reach : carrier_at (floor_at text) (floor_at text).carriers + 11 * (floor_at text).walls ≤ length text
      walls_reach = omega (arith, walls_end text tells.size, carrier_column_lem (floor_at text).carriers (omega arith))

-- On a text in good form the record check is checks 3 to 6.
pub placed_checked : (text : List ℕ) → form_of text ≡ passed
    → check_of (floor_at text) (walls_at text) ≡ places_of (floor_at text) (walls_at text)
placed_checked text h = rw append-nil at (checked_places text [] h)

-- A floor that is read is an accepted floor.
pub read_accepted : (text : List ℕ) → sheet_verdict text ≡ passed → check_of (floor_at text) (walls_at text) ≡ passed
unfolding sheet_verdict
read_accepted text h =
    let a = then_both _ _ h in
    placed_checked text a.0 ∙ a.1

module _ (text : List ℕ) (read : sheet_verdict text ≡ passed) where
  formed : form_of text ≡ passed
  unfolding sheet_verdict
  formed = (then_both _ _ read).0

  accepted : Accepted (floor_at text) (walls_at text)
  accepted = (theorems.passes_exactly (floor_at text) (walls_at text)).0 (read_accepted text read)

  bounds : Bounds (floor_at text)
  bounds = limited_bounds (floor_at text) accepted.limited

  wall_form : (j : ℕ) → j < (floor_at text).walls → line_form text (wall_at (floor_at text) j) 2 ≡ passed
  wall_form j l = rw (wall_column_lem text formed j) (walls_form j l)
    where
      walls_form : (j : ℕ) → j < (floor_at text).walls → line_form text (wall_column text (head_at text).carriers j) 2 ≡ passed
      walls_form j l = each_wall text (head_at text) (tells text formed).walls_form j (head_walls text l)

  -- A carrier's line, written again.
  carrier_again : (i : ℕ) → i < (floor_at text).carriers
      → part text (carrier_at (floor_at text) i) (length (carrier_line (floor_at text) i)) ≡ carrier_line (floor_at text) i
  carrier_again i l =
      let inside = accepted.carriers_in_grid i l in
      let line = line_at text formed i l in
      let f = floor_at text in
      let at = carrier_column text i in
      let c = count_in text i in
      let count : count_of f i ≡ c = count_at text formed i l in
      let s = start_at text formed i l in
      let start = cell_again text _ _ at bounds.width.1 bounds.height.1 (rw s at inside.1.0) in
      let docks =
      numbers_cells text f.width (dock_of f i) c (at + 15) (λ k g.
      let d = dock_at text formed i k l g in
      let again = cell_again text _ _ (at + 15 + 10 * k) bounds.width.1 bounds.height.1
      (rw d at (inside.1.1 k (rw count g))) in
      rw d (sym again.0, sym again.1))
      in
      rw (carrier_length f i, carrier_column_lem text formed i (omega arith))
      (carrier_text_lem text f i at c s count start docks line.count_number line.form)

  -- A wall's line, written again.
  wall_again : (j : ℕ) → j < (floor_at text).walls
      → part text (wall_at (floor_at text) j) (length (wall_line (floor_at text).width (get_or (walls_at text) j 0)))
      ≡ wall_line (floor_at text).width (get_or (walls_at text) j 0)
  wall_again j l =
      let c = wall_at_lem text formed j l in
      let cell = cell_again text _ _ (wall_at (floor_at text) j) bounds.width.1 bounds.height.1
      (rw c at (accepted.walls_in_grid j l)) in
      rw (wall_length (floor_at text).width (get_or (walls_at text) j 0))
      (wall_text text (floor_at text).width (get_or (walls_at text) j 0) (wall_at (floor_at text) j)
      (rw c cell.0) (rw c cell.1) (wall_form j l))

  size : length text ≡ sheet_length (floor_at text)
  unfolding sheet_length
  size = (tells text formed).size ∙ sym (wall_column_lem text formed (floor_at text).walls ∙ last_wall text)

  -- The sheet, written again.
  pub sheet_returns : sheet_of (floor_at text) (walls_at text) ≡ text
  unfolding sheet_of
  sheet_returns =
      let f = floor_at text in
      let n = f.carriers in
      let wall : ℕ → List ℕ = λ j. wall_line f.width (get_or (walls_at text) j 0) in
      let carriers = parts_lines text (carrier_line f) (carrier_at f) (carriers_behind f) n carrier_again in
      let walls = parts_lines text wall (wall_at f) (walls_behind f (walls_at text)) f.walls wall_again in
      let whole : length text ≡ 31 + (length (carrier_lines f) + length (wall_lines f (walls_at text))) =
      omega (arith, size, carriers_span f (walls_at text), walls_span f (walls_at text))
      in
      sym
      (sym (part_whole text _ whole)
      ∙ part_split text 0 31 (length (carrier_lines f) + length (wall_lines f (walls_at text)))
      ∙ ap₂ (λ (xs ys : List ℕ). xs ++ ys) (head_again text formed)
      (part_split text 31 (length (carrier_lines f)) (length (wall_lines f (walls_at text)))
      ∙ ap₂ (λ (xs ys : List ℕ). xs ++ ys) (carriers_part text f carriers) (walls_part text f (walls_at text) walls)))
