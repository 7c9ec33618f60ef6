-- The sheet and the printed routes of a floor without its last carrier (document 02, slip 5).
use Prim.Native.Nat.{ℕ, suc, ◌+◌, ◌-◌, ◌≤◌, ◌<◌}
use native.Mathlib.Omega.{arith}
use mathlib.Core.List.{List, [], ◌∷◌, ◌++◌}
use mathlib.Core.Path.{◌≡◌, refl, sym, ◌∙◌, ap}
use lib.ListN.{length, take, drop, length-append}
use lib.Seq.{take_at, get_or-take}
use Rattle.laws.specs.Verdict.{passed, when_passed}
use Rattle.laws.proofs.VerdictLaws.{then_passed, then_both}
use Rattle.floor.specs.declared.Floor.{Floor}
use Rattle.floor.specs.Checks.{check_of, start_of, count_of, docks_of, dock_of, long_enough}
use Rattle.floor.specs.Accepted.{SameFloor}
use Rattle.floor.proofs.LimitsLaws.{length_passed}
use Rattle.route.specs.Route.{Answer, none, route}
use Rattle.fields.specs.Field.{field_of}
use Rattle.sheet.specs.Text.{line_of, lines_of, head_line, carrier_line, wall_lines, sheet_of, sheet_length, wall_at, carrier_at}
use Rattle.sheet.specs.Values.{floor_at, walls_at}
use Rattle.sheet.specs.Read.{sheet_verdict, read_verdict, read_floor, read_walls, write_sheet}
use Rattle.sheet.proofs.LineLaws.{field_length, lines_span}
use Rattle.sheet.proofs.DockLaws.{carriers_behind}
use Rattle.sheet.proofs.FloorLines.{columns_same as columns-of-sheet}
use Rattle.sheet.proofs.LinesText.{lines_same}
use Rattle.sheet.proofs.FormLaws.{walls_length}
use Rattle.sheet.proofs.Theorems.{theorems as sheet-theorems}
use Rattle.planner.specs.Plan.{plan_of}
use Rattle.planner.specs.Claims.{answer_at}
use Rattle.printing.specs.Text.{answer_line, first_line, routes_text}
use Rattle.printing.specs.Print.{print_of, routes_of}
use Rattle.printing.proofs.Theorems.{theorems as printing-theorems}
use Rattle.demands.specs.Shorter.{drop_last, without_last, LastLineGone, Shortened, ShortenedSheet}
use Rattle.demands.proofs.SameFloorLaws.{columns_same}
use Rattle.demands.proofs.RoundTripLaws.{length_passes, written, other_walls, walls_behind}
use Rattle.demands.proofs.ShorterLaws.{lines_last, field_changed, drop_accepted, drop_answers, drop_failing}

-- Line 1: the four fields before the count, the count, and the rest.
abbrev leading : Floor → List ℕ
leading f = field_of f.width ++ (field_of f.height ++ (field_of f.horizon ++ field_of f.depth))

leading_length : (f : Floor) → length (leading f) ≡ 20
unfolding field_of
leading_length f = refl

head_parts : (f : Floor) → head_line f ≡ leading f ++ (field_of f.carriers ++ (field_of f.walls ++ (10 ∷ [])))
unfolding head_line line_of field_of
head_parts f = refl

-- The other carriers' lines are the same, and begin at the same columns.
line_kept : (f : Floor) (i : ℕ) → carrier_line (drop_last f) i ≡ carrier_line f i
unfolding carrier_line start_of count_of docks_of dock_of drop_last
line_kept f i = refl

columns_kept : (f : Floor) (k : ℕ) → carrier_at (drop_last f) k ≡ carrier_at f k
unfolding count_of drop_last
columns_kept f k = columns_same (drop_last f) f k (λ i l. refl)

module _ (f : Floor) (ws : List ℕ) (more : 1 < f.carriers) where
  -- The lines of the first k carriers, behind line 1.
  span : (k : ℕ) → 31 + length (lines_of (carrier_line f) k) ≡ carrier_at f k
  unfolding carrier_at
  span k = lines_span (carrier_line f) (carrier_at f) (carriers_behind f) k

  -- The text cut at the last carrier's line is the sheet of the floor without it.
  cut_there : (a b : ℕ) → a ≡ carrier_at f (f.carriers - 1) → b ≡ carrier_at f f.carriers →
      (take 20 (sheet_of f ws) ++ (field_of (f.carriers - 1) ++ (take (a - 25) (drop 25 (sheet_of f ws)) ++ drop b (sheet_of f ws))))
      ≡ sheet_of (drop_last f) ws
  unfolding sheet_of drop_last
  cut_there a b ea eb =
      let n = f.carriers in
      let line = carrier_line f in
      let walls = field_of f.walls ++ (10 ∷ []) in
      let six : length walls ≡ 6 = length-append (field_of f.walls) (10 ∷ []) ∙ omega (arith, field_length f.walls) in
      let size : length (walls ++ lines_of line (n - 1)) ≡ a - 25 =
      length-append walls (lines_of line (n - 1)) ∙ omega (arith, span (n - 1)) in
      let last : length (lines_of line n) ≡ length (lines_of line (n - 1)) + length (line (n - 1)) =
      ap length (lines_last line n (omega arith)) ∙ length-append (lines_of line (n - 1)) (line (n - 1)) in
      rw (
        head_parts f,
        head_parts (drop_last f),
        lines_last line n (omega arith),
        lines_same (carrier_line (drop_last f)) line (n - 1) (λ i l. line_kept f i),
      )
      (field_changed (leading f) (field_of n) (field_of (n - 1)) walls (lines_of line (n - 1)) (line (n - 1)) (wall_lines f ws)
      (a - 25) b (leading_length f) (field_length n) size (omega (arith, span (n - 1), span n)))

  -- The sheet without the last carrier is the sheet of the floor without it.
  pub sheet_shorter : check_of f ws ≡ passed → without_last f.carriers (sheet_of f ws) ≡ sheet_of (drop_last f) ws
  unfolding without_last
  sheet_shorter ok =
      cut_there _ _ (columns-of-sheet f ws ok (f.carriers - 1) (omega arith)) (columns-of-sheet f ws ok f.carriers (omega arith))

module _ (f : Floor) (ws : List ℕ) (ok : check_of f ws ≡ passed) (more : 1 < f.carriers) where
  -- A sheet in the front of enough memory.
  front_written : (f' : Floor) → check_of f' ws ≡ passed → (old : List ℕ) → sheet_length f' ≤ length old →
      take (sheet_length f') (write_sheet f' ws old) ≡ sheet_of f' ws
  front_written f' passes old l =
      ap (take (sheet_length f')) (written f' ws old passes l)
      ∙ take_at (sheet_of f' ws) (drop (sheet_length f') old) (sheet_length f') (sheet-theorems.sheet_length_lem f' ws)

  shorter_length : sheet_length (drop_last f) ≤ sheet_length f
  unfolding sheet_length wall_at drop_last
  shorter_length =
      let next : suc (f.carriers - 1) ≡ f.carriers = omega arith in
      let last = rw next at (carriers_behind f (f.carriers - 1)) in
      omega (arith, columns_kept f (f.carriers - 1), last)

  sheet_written : (old : List ℕ) → sheet_length f ≤ length old →
      take (sheet_length (drop_last f)) (write_sheet (drop_last f) ws old)
      ≡ without_last f.carriers (take (sheet_length f) (write_sheet f ws old))
  sheet_written old l =
      front_written (drop_last f) (drop_accepted f ws ok more) old (omega (arith, shorter_length))
      ∙ sym (sheet_shorter f ws more ok)
      ∙ ap (without_last f.carriers) (sym (front_written f ok old l))

  -- The other carriers' lines.
  line_same : (i : ℕ) (x : Answer) → answer_line (drop_last f) i x ≡ answer_line f i x
  unfolding answer_line drop_last
  line_same i none = refl
  line_same i (route r) = refl

  answer_same : (i : ℕ) → i < f.carriers - 1 → answer_at (plan_of (drop_last f) ws) i ≡ answer_at (plan_of f ws) i
  unfolding answer_at
  answer_same i l = rw (drop_answers f ws ok more) (get_or-take (f.carriers - 1) (plan_of f ws) i none l)

  others_same : lines_of (λ i. answer_line (drop_last f) i (answer_at (plan_of (drop_last f) ws) i)) (f.carriers - 1) ≡
      lines_of (λ i. answer_line f i (answer_at (plan_of f ws) i)) (f.carriers - 1)
  others_same =
      lines_same _ _ (f.carriers - 1)
      (λ i l. line_same i (answer_at (plan_of (drop_last f) ws) i) ∙ ap (answer_line f i) (answer_same i l))

  pub last_line_gone : LastLineGone f ws (print_of f ws) (print_of (drop_last f) ws)
  unfolding print_of routes_text first_line drop_last
  last_line_gone =
      record {
        printed = rw (lines_last (λ i. answer_line f i (answer_at (plan_of f ws) i)) f.carriers (omega arith));
        without = rw (drop_failing f ws ok more, others_same);
      }

  pub shortened : Shortened f ws
  shortened =
      record {
        accepted = drop_accepted f ws ok more;
        answers = drop_answers f ws ok more;
        failing = drop_failing f ws ok more;
        sheet = sheet_written;
        printed = last_line_gone;
      }

module _ (text lent : List ℕ) (read : read_verdict text (length lent) ≡ passed) (more : 1 < (floor_at text).carriers) where
  abbrev f : Floor
  f = floor_at text

  abbrev ws : List ℕ
  ws = walls_at text

  abbrev short : List ℕ
  short = without_last f.carriers text

  -- The sheet is accepted and its walls have room; it is the sheet of its floor, and the shorter one that of the floor without the last
  -- carrier.
  good : (sheet_verdict text ≡ passed) × (long_enough f.walls (length lent) ≡ passed)
  unfolding read_verdict
  good = then_both _ _ read

  floor_good : check_of f ws ≡ passed
  floor_good = sheet-theorems.read_accepted text good.0

  short_is : short ≡ sheet_of (drop_last f) ws
  short_is = ap (without_last f.carriers) (sym (sheet-theorems.sheet_returns text good.0)) ∙ sheet_shorter f ws more floor_good

  short_good : sheet_verdict short ≡ passed
  short_good = rw short_is (sheet-theorems.has_sheet (drop_last f) ws (drop_accepted f ws floor_good more))

  short_floor : SameFloor (drop_last f) ws (floor_at short) (walls_at short)
  short_floor = rw short_is (sheet-theorems.floor_returns (drop_last f) ws (drop_accepted f ws floor_good more))

  same_walls : f.walls ≡ (floor_at short).walls
  unfolding drop_last
  same_walls = short_floor.outline.walls

  short_read : read_verdict short (length lent) ≡ passed
  unfolding read_verdict
  short_read = then_passed short_good ∙ length_passes _ _ (omega (arith, same_walls, length_passed f.walls (length lent) good.1))

  reads_shorter : SameFloor (drop_last (read_floor text (length lent))) (read_walls text lent) (read_floor short (length lent))
      (read_walls short lent)
  unfolding read_floor read_walls when_passed drop_last
  reads_shorter =
      rw (read, short_read)
      (other_walls (drop_last f) ws (floor_at short) (walls_at short) _ _ short_floor
      (walls_behind ws _ f.walls (omega (arith, walls_length text)))
      (walls_behind (walls_at short) _ f.walls (omega (arith, walls_length short, same_walls))))

  routes_shorter : LastLineGone f ws (routes_of text) (routes_of short)
  unfolding print_of
  routes_shorter =
      let less = drop_accepted f ws floor_good more in
      rw (printing-theorems.routes_accepted text good.0, short_is, printing-theorems.routes_of_sheet (drop_last f) ws less)
      (last_line_gone f ws floor_good more)

  pub shortened_sheet : ShortenedSheet text lent
  shortened_sheet = record { accepted = short_read; floor = reads_shorter; printed = routes_shorter }
