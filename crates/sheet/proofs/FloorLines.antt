-- The sheet of an accepted floor, line by line: each line is in good form, and says what the floor has there.
use Prim.Native.Nat.{ℕ, zero, suc, ◌+◌, ◌*◌, ◌/◌, ◌%◌, ◌≤◌, ◌<◌}
use native.Mathlib.Omega.{arith}
use native.Mathlib.Nat.{mod-lt, div-lt_iff_lt-mul, mul_comm}
use mathlib.Core.Path.{◌≡◌, refl, ◌∙◌}
use mathlib.Core.List.{List, [], ◌∷◌, ◌++◌}
use lib.ListN.{length, get_or, length-append}
use Rattle.floor.specs.declared.Floor.{Floor}
use Rattle.laws.specs.Verdict.{passed}
use Rattle.floor.specs.Checks.{start_of, count_of, dock_of, check_of}
use Rattle.floor.specs.Accepted.{Accepted}
use Rattle.floor.proofs.LimitsLaws.{Bounds, limited_bounds}
use Rattle.floor.proofs.Theorems.{theorems}
use Rattle.fields.specs.Field.{number_at}
use Rattle.fields.specs.Form.{line_form, counted_form, past_counted, column_past}
use Rattle.sheet.specs.Text.{carrier_lines, wall_lines, head_line, cell_numbers, carrier_line, wall_line, sheet_of, carrier_at, wall_at}
use Rattle.sheet.specs.Form.{carrier_column}
use Rattle.sheet.specs.Values.{cell_at_column, head_at}
use Rattle.sheet.proofs.CellLaws.{number_value, cell_of_cell}
use Rattle.sheet.proofs.LineLaws.{head_length, wall_length}
use Rattle.sheet.proofs.SheetLaws.{carriers_span, walls_span, sheet_length_lem}
use Rattle.laws.specs.Memory.{part}
use Rattle.laws.proofs.PartLaws.{part_whole, part_blocks}
use Rattle.sheet.proofs.LineText.{numbers_from, text_line}
use Rattle.sheet.proofs.LinesText.{lines_parts}
use Rattle.sheet.proofs.CountedText.{text_counted}
use Rattle.sheet.proofs.DockLaws.{cells_length, cells_numbers, cells_small, carrier_length, carrier_some, carrier_low}
use Rattle.sheet.proofs.DockLaws.{carriers_behind, walls_behind}

-- The two numbers of a cell, read as a cell.
cell_read : (text : List ℕ) (w h at c : ℕ) → 0 < w → w ≤ 32 → h ≤ 32 → c < w * h
    → number_at text at ≡ c % w → number_at text (at + 5) ≡ c / w → cell_at_column text w h at ≡ c
unfolding cell_at_column
cell_read text w h at c z a b l e g =
    let col : c % w < w = mod-lt c z in
    let row : c / w < h = (div-lt_iff_lt-mul z).1 (rw mul_comm l) in
    rw (number_value text at (c % w) (omega arith) e, number_value text (at + 5) (c / w) (omega arith) g) (cell_of_cell w h c l z)

module _ (f : Floor) (ws : List ℕ) (ok : check_of f ws ≡ passed) where
  pub accepted : Accepted f ws
  accepted = (theorems.passes_exactly f ws).0 ok

  pub bounds : Bounds f
  bounds = limited_bounds f accepted.limited

  abbrev text : List ℕ
  text = sheet_of f ws

  whole : part text 0 (31 + (length (carrier_lines f) + length (wall_lines f ws))) ≡ head_line f ++ (carrier_lines f ++ wall_lines f ws)
  unfolding sheet_of
  whole = part_whole text _ (sheet_length_lem f ws ∙ omega (arith, carriers_span f ws, walls_span f ws))

  front : (part text 0 31 ≡ head_line f)
      × (part text 31 (length (carrier_lines f) + length (wall_lines f ws)) ≡ carrier_lines f ++ wall_lines f ws)
  front =
      part_blocks text (head_line f) (carrier_lines f ++ wall_lines f ws) 0 31 _ (head_length f)
      (length-append (carrier_lines f) (wall_lines f ws)) (omega arith)
      whole

  -- The carriers' lines are not empty.
  carriers_long : 0 < length (carrier_lines f)
  carriers_long = omega (arith, bounds.carriers.0, carriers_span f ws, carrier_low f f.carriers)

  back : (part text 31 (length (carrier_lines f)) ≡ carrier_lines f)
      × (part text (31 + length (carrier_lines f)) (length (wall_lines f ws)) ≡ wall_lines f ws)
  back =
      part_blocks text (carrier_lines f) (wall_lines f ws) 31 (length (carrier_lines f)) (length (wall_lines f ws)) refl refl
      (omega (arith, carriers_long))
      front.1

  carrier_part : (i : ℕ) → i < f.carriers → part text (carrier_at f i) (length (carrier_line f i)) ≡ carrier_line f i
  unfolding carrier_at
  carrier_part = lines_parts text (carrier_line f) (carrier_at f) (carriers_behind f) (carrier_some f) f.carriers back.0

  wall_part : (j : ℕ) → j < f.walls
      → part text (wall_at f j) (length (wall_line f.width (get_or ws j 0))) ≡ wall_line f.width (get_or ws j 0)
  unfolding wall_at
  wall_part =
      let first : 31 + length (carrier_lines f) ≡ carrier_at f f.carriers + 11 * 0 = omega (arith, carriers_span f ws) in
      lines_parts text (λ (j : ℕ). wall_line f.width (get_or ws j 0)) (wall_at f) (walls_behind f ws)
      (λ j. omega (arith, wall_length f.width (get_or ws j 0))) f.walls
      (rw first at back.1)

  -- Line 1, read.
  pub head_reads : (line_form text 0 6 ≡ passed) ×
      (numbers_from text 0 6 ≡ f.width ∷ f.height ∷ f.horizon ∷ f.depth ∷ f.carriers ∷ f.walls ∷ [])
  unfolding head_line
  head_reads =
      text_line text (f.width ∷ f.height ∷ f.horizon ∷ f.depth ∷ f.carriers ∷ f.walls ∷ []) 0 (omega (arith, bounds)) front.0

  -- The six values of line 1.
  pub record HeadSame : Type 0 where
    pub width : (head_at text).width ≡ f.width
    pub height : (head_at text).height ≡ f.height
    pub horizon : (head_at text).horizon ≡ f.horizon
    pub depth : (head_at text).depth ≡ f.depth
    pub carriers_same : (head_at text).carriers ≡ f.carriers
    pub walls_same : (head_at text).walls ≡ f.walls

  pub head_same : HeadSame
  unfolding head_at numbers_from
  head_same =
      let read = head_reads.1 in
      record {
        width = number_value text 0 f.width (omega (arith, bounds.width.1)) (cc);
        height = number_value text 5 f.height (omega (arith, bounds.height.1)) (cc);
        horizon = number_value text 10 f.horizon (omega (arith, bounds.horizon.1)) (cc);
        depth = number_value text 15 f.depth (omega (arith, bounds.depth.1)) (cc);
        carriers_same = number_value text 20 f.carriers (omega (arith, bounds.carriers.1)) (cc);
        walls_same = number_value text 25 f.walls (omega (arith, bounds.walls.1)) (cc);
      }

  -- The column and the row of a cell of the grid are small numbers.
  small : (c : ℕ) → c < f.width * f.height → (c % f.width < 100000) × (c / f.width < 100000)
  small c l =
      let col : c % f.width < f.width = mod-lt c bounds.width.0 in
      let row : c / f.width < f.height = (div-lt_iff_lt-mul bounds.width.0).1 (rw mul_comm l) in
      (omega (arith, bounds.width.1), omega (arith, bounds.height.1))

  cell_reads : (at c : ℕ) → c < f.width * f.height → number_at text at ≡ c % f.width → number_at text (at + 5) ≡ c / f.width
      → cell_at_column text f.width f.height at ≡ c
  cell_reads at c l = cell_read text f.width f.height at c bounds.width.0 bounds.width.1 bounds.height.1 l

  -- A carrier's line, read, by the floor's columns.
  pub record CarrierReads (i : ℕ) : Type 0 where
    pub form : counted_form text (carrier_at f i) ≡ passed
    pub start : cell_at_column text f.width f.height (carrier_at f i) ≡ start_of f i
    pub count : number_at text (carrier_at f i + 10) ≡ count_of f i
    pub docks : (k : ℕ) → k < count_of f i → cell_at_column text f.width f.height (carrier_at f i + 15 + 10 * k) ≡ dock_of f i k

  pub carrier_reads : (i : ℕ) → i < f.carriers → CarrierReads i
  unfolding carrier_line
  carrier_reads i l =
      let w = f.width in
      let c = count_of f i in
      let at = carrier_at f i in
      let inside = accepted.carriers_in_grid i l in
      let s = small (start_of f i) inside.1.0 in
      let r =
      text_counted text at (start_of f i % w) (start_of f i / w) c (cell_numbers w (dock_of f i) c)
      (s.0, (s.1, (omega (arith, inside.0.1), cells_small w (dock_of f i) c (λ k g. small (dock_of f i k) (inside.1.1 k g)))))
      (cells_length w (dock_of f i) c) inside.0.0 inside.0.1 (rw (carrier_length f i) at (carrier_part i l))
      in
      let pairs = cells_numbers text w (dock_of f i) c (at + 15) r.others in
      record {
        form = r.form;
        start = cell_reads at (start_of f i) inside.1.0 r.first r.second;
        count = r.third;
        docks = λ k g. cell_reads (at + 15 + 10 * k) (dock_of f i k) (inside.1.1 k g) (pairs k g).0 (pairs k g).1;
      }

  -- The carriers' lines stand where the floor's dock counts say.
  pub column_said : (i : ℕ) → column_past (past_counted text) 31 i ≡ carrier_column text i
  unfolding carrier_column
  column_said i = refl

  pub columns_same : (i : ℕ) → i ≤ f.carriers → carrier_column text i ≡ carrier_at f i
  unfolding carrier_column column_past past_counted carrier_at
  columns_same zero l = refl
  columns_same (suc i) l = rw (columns_same i (omega arith), (carrier_reads i (omega arith)).count)

  -- A wall's line, read.
  pub record WallReads (j : ℕ) : Type 0 where
    pub form : line_form text (wall_at f j) 2 ≡ passed
    pub cell : cell_at_column text f.width f.height (wall_at f j) ≡ get_or ws j 0

  pub wall_reads : (j : ℕ) → j < f.walls → WallReads j
  unfolding wall_line numbers_from
  wall_reads j l =
      let w = f.width in
      let c = get_or ws j 0 in
      let inside = accepted.walls_in_grid j l in
      let s = small c inside in
      let at = wall_at f j in
      let r = text_line text (c % w ∷ c / w ∷ []) at (s.0, (s.1, tt)) (rw (wall_length w c) at (wall_part j l)) in
      let read = r.1 in
      record { form = r.0; cell = cell_reads at c inside (cc) (cc) }
