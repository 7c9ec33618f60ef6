-- The round trips of demand 2: a floor written and read, and a sheet read and written, in memory that may be longer than needed.
use Prim.Native.Nat.{ℕ, ◌≤◌}
use native.Mathlib.Omega.{arith}
use mathlib.Core.List.{List, ◌++◌}
use mathlib.Core.Path.{◌≡◌, refl, sym, ◌∙◌, ap}
use lib.ListN.{length, get_or, take, drop, length-append, get_or-append}
use lib.Seq.{take_at}
use borrow.Author.Tests.{le-leb}
use Rattle.laws.specs.Verdict.{passed, All, when_passed}
use Rattle.laws.proofs.VerdictLaws.{then_passed, then_both, demand_passes, when_passed_lem}
use Rattle.floor.specs.declared.Floor.{Floor}
use Rattle.floor.specs.Checks.{check_of, long_enough}
use Rattle.floor.specs.Accepted.{SameFloor}
use Rattle.floor.proofs.SameLaws.{walls_agree, check_same}
use Rattle.sheet.specs.Text.{sheet_of, sheet_length}
use Rattle.sheet.specs.Values.{floor_at, walls_at}
use Rattle.sheet.specs.Read.{sheet_verdict, read_verdict, read_floor, read_walls, write_verdict, write_sheet}
use Rattle.sheet.proofs.FormLaws.{walls_length}
use Rattle.sheet.proofs.Theorems.{theorems as sheet-theorems}
use Rattle.demands.proofs.SameSheetLaws.{sheet_same}

-- A check and then enough memory.
pub length_passes : (needed lent : ℕ) → needed ≤ lent → long_enough needed lent ≡ passed
unfolding long_enough
length_passes needed lent l = demand_passes 9 0 (le-leb needed lent l)

-- Two records of one floor with other walls, which agree with theirs up to the count; walls behind the count are no part of it.
pub other_walls : (f : Floor) (ws : List ℕ) (f' : Floor) (ws' xs ys : List ℕ) → SameFloor f ws f' ws'
    → All (λ j. get_or xs j 0 ≡ get_or ws j 0) f.walls → All (λ j. get_or ys j 0 ≡ get_or ws' j 0) f.walls → SameFloor f xs f' ys
other_walls f ws f' ws' xs ys same one other =
    record { outline = same.outline; docks = same.docks; cells = λ j h. one j h ∙ same.cells j h ∙ sym (other j h) }

pub walls_behind : (ws rest : List ℕ) (n : ℕ) → n ≤ length ws → All (λ j. get_or (ws ++ rest) j 0 ≡ get_or ws j 0) n
walls_behind ws rest n l j h = get_or-append ws rest 0 j (omega arith)

-- What is written into enough memory has the sheet in front.
pub written : (f : Floor) (ws old : List ℕ) → check_of f ws ≡ passed → sheet_length f ≤ length old
    → write_sheet f ws old ≡ sheet_of f ws ++ drop (sheet_length f) old
unfolding write_sheet write_verdict
written f ws old ok l = when_passed_lem old (then_passed ok ∙ length_passes _ _ l)

pub floor_returns : (f : Floor) (ws old lent : List ℕ) → check_of f ws ≡ passed → sheet_length f ≤ length old → f.walls ≤ length lent
    → SameFloor f ws (read_floor (take (sheet_length f) (write_sheet f ws old)) (length lent))
    (read_walls (take (sheet_length f) (write_sheet f ws old)) lent)
unfolding read_floor read_walls read_verdict when_passed
floor_returns f ws old lent ok l w =
    let text = sheet_of f ws in
    let same = sheet-theorems.floor_returns f ws ok in
    let front : take (sheet_length f) (write_sheet f ws old) ≡ text =
    ap (take (sheet_length f)) (written f ws old ok l)
    ∙ take_at text (drop (sheet_length f) old) (sheet_length f) (sheet-theorems.sheet_length_lem f ws)
    in
    let read : read_verdict text (length lent) ≡ passed =
    then_passed (sheet-theorems.has_sheet f ws ok) ∙ length_passes _ _ (omega (arith, same.outline.walls))
    in
    rw (front, read)
    (other_walls f ws (floor_at text) (walls_at text) ws _ same (λ j h. refl)
    (walls_behind (walls_at text) (drop (floor_at text).walls lent) f.walls (omega (arith, same.outline.walls, walls_length text))))

-- A sheet that is accepted, written from what was read of it.
written_again : (text rest old : List ℕ) → sheet_verdict text ≡ passed → length text ≤ length old
    → take (length text) (write_sheet (floor_at text) (walls_at text ++ rest) old) ≡ text
written_again text rest old ok l =
    let f = floor_at text in
    let ws = walls_at text in
    let long : f.walls ≤ length ws = omega (arith, walls_length text) in
    let same = walls_agree f ws (ws ++ rest) (λ j h. sym (walls_behind ws rest f.walls long j h)) in
    let back : sheet_of f ws ≡ text = sheet-theorems.sheet_returns text ok in
    let size : sheet_length f ≡ length text = sym (sheet-theorems.sheet_length_lem f ws) ∙ ap length back in
    let checked : check_of f (ws ++ rest) ≡ passed =
    sym (check_same f ws f (ws ++ rest) same long (omega (arith, length-append ws rest))) ∙ sheet-theorems.read_accepted text ok
    in
    let whole : write_sheet f (ws ++ rest) old ≡ text ++ drop (sheet_length f) old =
    written f (ws ++ rest) old checked (omega arith)
    ∙ ap (λ (xs : List ℕ). xs ++ drop (sheet_length f) old) (sym (sheet_same f ws f (ws ++ rest) same) ∙ back)
    in
    ap (take (length text)) whole ∙ take_at text (drop (sheet_length f) old) (length text) refl

pub sheet_returns : (text lent old : List ℕ) → read_verdict text (length lent) ≡ passed → length text ≤ length old
    → take (length text) (write_sheet (read_floor text (length lent)) (read_walls text lent) old) ≡ text
unfolding read_floor read_walls read_verdict when_passed
sheet_returns text lent old e l = rw e (written_again text _ old (then_both _ _ e).0 l)
