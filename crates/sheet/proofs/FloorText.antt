-- A floor written and read is the same floor.
use Prim.Native.Nat.{ℕ, zero, suc, ◌+◌, ◌*◌, ◌/◌, ◌%◌, ◌≤◌, ◌<◌}
use native.Mathlib.Omega.{arith}
use mathlib.Core.Path.{◌≡◌, refl, sym, ◌∙◌, ap}
use mathlib.Core.List.{List}
use borrow.Author.Tests.{le-leb}
use lib.ListN.{length, get_or}
use Rattle.floor.specs.declared.Floor.{Floor}
use Rattle.laws.specs.Verdict.{passed}
use Rattle.floor.specs.Checks.{start_of, count_of, dock_of, limits_of, check_of}
use Rattle.floor.specs.Accepted.{SameOutline, SameFloor}
use Rattle.laws.proofs.VerdictLaws.{then_passed, demand_passes, turn_passes}
use Rattle.floor.proofs.LimitsLaws.{check_tells}
use Rattle.floor.proofs.SameLaws.{places_same}
use Rattle.fields.specs.Form.{line_form, counted_form, past_counted, past_pair, column_past, lines_form, end_form}
use Rattle.fields.proofs.ColumnLaws.{pair_columns}
use Rattle.sheet.specs.Text.{sheet_of, carrier_at, wall_at}
use Rattle.sheet.specs.Text.{sheet_length}
use Rattle.sheet.specs.Form.{carrier_column, wall_column, rest_form}
use Rattle.sheet.specs.Values.{cell_at_column, start_in, count_in, dock_in, place_in, starts_at, counts_at, docks_at, head_at, floor_at}
use Rattle.sheet.specs.Values.{walls_from}
use Rattle.sheet.specs.Values.{walls_at}
use Rattle.sheet.specs.Read.{form_of, sheet_verdict}
use Rattle.sheet.proofs.CellLaws.{number_value}
use Rattle.sheet.proofs.ListedLaws.{listed_at, up_to_at, up_to_below}
use Rattle.sheet.proofs.SheetLaws.{sheet_length_lem}
use Rattle.sheet.proofs.DockLaws.{dock_place}
use Rattle.sheet.proofs.FloorLines.{accepted, bounds, head_same, head_reads, carrier_reads, column_said, columns_same, wall_reads}

module _ (f : Floor) (ws : List ℕ) (ok : check_of f ws ≡ passed) where
  abbrev text : List ℕ
  text = sheet_of f ws

  -- What is read of a carrier.
  count_reads : (i : ℕ) → i < f.carriers → count_in text i ≡ count_of f i
  unfolding count_in
  count_reads i l =
      number_value text _ (count_of f i) (omega (arith, ((accepted f ws ok).carriers_in_grid i l).0.1))
      (rw (columns_same f ws ok i (omega arith)) (carrier_reads f ws ok i l).count)

  start_reads : (i : ℕ) → i < f.carriers → start_in text (head_at text) i ≡ start_of f i
  unfolding start_in
  start_reads i l =
      rw ((head_same f ws ok).width, (head_same f ws ok).height, columns_same f ws ok i (omega arith)) (carrier_reads f ws ok i l).start

  dock_reads : (i k : ℕ) → i < f.carriers → k < count_of f i → dock_in text (head_at text) i k ≡ dock_of f i k
  unfolding dock_in
  dock_reads i k l g =
      rw ((head_same f ws ok).width, (head_same f ws ok).height, columns_same f ws ok i (omega arith)) ((carrier_reads f ws ok i l).docks k g)

  place_reads : (i k : ℕ) → i < f.carriers → k < count_of f i → place_in text (head_at text) (4 * i + k) ≡ dock_of f i k
  unfolding place_in
  place_reads i k l g =
      let few = ((accepted f ws ok).carriers_in_grid i l).0.1 in
      let col : (4 * i + k) % 4 ≡ k = omega (arith, few, g) in
      let row : (4 * i + k) / 4 ≡ i = omega (arith, few, g) in
      rw (col, row)
      (up_to_below _ _ i (rw (head_same f ws ok).carriers_same l) ∙ up_to_below _ _ k (rw (count_reads i l) g) ∙ dock_reads i k l g)

  -- The floor that is read, place by place.
  starts_return : (i : ℕ) → i < f.carriers → start_of f i ≡ start_of (floor_at text) i
  unfolding floor_at start_of starts_at
  starts_return i l =
      sym (up_to_at (start_in text (head_at text)) (head_at text).carriers 8 i (rw (head_same f ws ok).carriers_same l)
      (omega (arith, (bounds f ws ok).carriers.1)) ∙ start_reads i l)

  counts_return : (i : ℕ) → i < f.carriers → count_of f i ≡ count_of (floor_at text) i
  unfolding floor_at count_of counts_at
  counts_return i l =
      sym (up_to_at (count_in text) (head_at text).carriers 8 i (rw (head_same f ws ok).carriers_same l)
      (omega (arith, (bounds f ws ok).carriers.1)) ∙ count_reads i l)

  places_return : (p : ℕ) → p < 32 → get_or (floor_at text).docks p 0 ≡ place_in text (head_at text) p
  unfolding floor_at docks_at
  places_return p l = listed_at (place_in text (head_at text)) 32 p l

  docks_return : (i k : ℕ) → i < f.carriers → k < count_of f i → dock_of f i k ≡ dock_of (floor_at text) i k
  docks_return i k l g =
      let few = ((accepted f ws ok).carriers_in_grid i l).0.1 in
      sym (dock_place (floor_at text) i k (omega (arith, few, g))
      ∙ places_return (4 * i + k) (omega (arith, few, g, l, (bounds f ws ok).carriers.1)) ∙ place_reads i k l g)

  -- Line 1 of the floor that is read.
  width_same : (floor_at text).width ≡ f.width
  unfolding floor_at head_at
  width_same = (head_same f ws ok).width

  height_same : (floor_at text).height ≡ f.height
  unfolding floor_at head_at
  height_same = (head_same f ws ok).height

  horizon_same : (floor_at text).horizon ≡ f.horizon
  unfolding floor_at head_at
  horizon_same = (head_same f ws ok).horizon

  depth_same : (floor_at text).depth ≡ f.depth
  unfolding floor_at head_at
  depth_same = (head_same f ws ok).depth

  carriers_counted : (floor_at text).carriers ≡ f.carriers
  unfolding floor_at head_at
  carriers_counted = (head_same f ws ok).carriers_same

  walls_counted : (floor_at text).walls ≡ f.walls
  unfolding floor_at head_at
  walls_counted = (head_same f ws ok).walls_same

  -- The walls stand where the floor's dock counts say.
  ends : (i : ℕ) → i ≤ f.carriers → carrier_at (floor_at text) i ≡ carrier_at f i
  unfolding carrier_at
  ends zero l = refl
  ends (suc i) l = rw (ends i (omega arith), ← counts_return i (omega arith))

  wall_place : (j : ℕ) → wall_at (floor_at text) j ≡ wall_at f j
  unfolding wall_at
  wall_place j =
      ap (λ (p : ℕ). p + 11 * j) (ap (carrier_at (floor_at text)) carriers_counted ∙ ends f.carriers (omega arith))

  walls_columns : (j : ℕ) → column_past past_pair (carrier_column text f.carriers) j ≡ wall_at f j
  unfolding wall_at
  walls_columns j = pair_columns (carrier_column text f.carriers) j ∙ rw (columns_same f ws ok f.carriers (omega arith))

  end : wall_at f f.walls ≡ sheet_length f
  unfolding sheet_length
  end = refl

  cell_there : (j : ℕ)
      → cell_at_column text (floor_at text).width (floor_at text).height (wall_at (floor_at text) j)
      ≡ cell_at_column text f.width f.height (wall_at f j)
  cell_there j =
      ap (λ (w : ℕ). cell_at_column text w (floor_at text).height (wall_at (floor_at text) j)) width_same
      ∙ ap (λ (h : ℕ). cell_at_column text f.width h (wall_at (floor_at text) j)) height_same
      ∙ ap (cell_at_column text f.width f.height) (wall_place j)

  cells_return : (j : ℕ) → j < f.walls → get_or ws j 0 ≡ get_or (walls_at text) j 0
  unfolding walls_at walls_from
  cells_return j l =
      sym (listed_at (λ (p : ℕ). cell_at_column text (floor_at text).width (floor_at text).height (wall_at (floor_at text) p))
      (floor_at text).walls j
      (omega (arith, walls_counted, l)) ∙ cell_there j ∙ (wall_reads f ws ok j l).cell)

  -- A floor written and read is the same floor.
  pub floor_returns : SameFloor f ws (floor_at text) (walls_at text)
  floor_returns = record { outline = outline_returns; docks = λ i l k g. docks_return i k l g; cells = cells_return }
    where
      outline_returns : SameOutline f (floor_at text)
      outline_returns =
          record {
            width = sym width_same;
            height = sym height_same;
            horizon = sym horizon_same;
            depth = sym depth_same;
            carriers = sym carriers_counted;
            walls = sym walls_counted;
            starts = starts_return;
            counts = counts_return;
          }

  -- The sheet of an accepted f ws ok floor is in good form.
  carriers_pass : lines_form (counted_form text) (past_counted text) 31 (head_at text).carriers ≡ passed
  unfolding lines_form
  carriers_pass =
      turn_passes _ _ (λ i l.
      let b : i < f.carriers = rw (head_same f ws ok).carriers_same at l in
      rw (column_said f ws ok i ∙ columns_same f ws ok i (omega arith)) (carrier_reads f ws ok i b).form)

  walls_pass : lines_form (λ (column : ℕ). line_form text column 2) past_pair (carrier_column text (head_at text).carriers) (head_at text).walls
      ≡ passed
  unfolding lines_form
  walls_pass =
      rw (head_same f ws ok).carriers_same
      (turn_passes _ _ (λ j l. rw (walls_columns j) (wall_reads f ws ok j (rw (head_same f ws ok).walls_same at l)).form))

  rest_passes : rest_form text (head_at text) ≡ passed
  unfolding rest_form end_form wall_column
  rest_passes =
      let column = column_past past_pair (carrier_column text (head_at text).carriers) (head_at text).walls in
      let last : column ≡ sheet_length f =
      rw ((head_same f ws ok).carriers_same, (head_same f ws ok).walls_same) (walls_columns f.walls ∙ end)
      in
      then_passed carriers_pass ∙ then_passed walls_pass
      ∙ demand_passes 1 column (le-leb (length text) column (omega (arith, sheet_length_lem f ws, last)))

  limits_pass : limits_of (head_at text) ≡ passed
  unfolding limits_of
  limits_pass =
      let h = head_same f ws ok in
      rw (h.width, h.height, h.horizon, h.depth, h.carriers_same, h.walls_same) (check_tells f ws ok).limited

  -- The sheet of an accepted f ws ok floor is accepted f ws ok.
  pub has_sheet : sheet_verdict text ≡ passed
  unfolding sheet_verdict form_of
  has_sheet =
      then_passed (then_passed (head_reads f ws ok).0 ∙ then_passed limits_pass ∙ rest_passes)
      ∙ sym (places_same f ws (floor_at text) (walls_at text) floor_returns)
      ∙ (check_tells f ws ok).places
