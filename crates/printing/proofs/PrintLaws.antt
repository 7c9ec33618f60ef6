-- Printing with a refusal and without, and the path from a sheet's bytes.
use Prim.Native.Nat.{ℕ, ◌*◌, ◌≤◌, ◌<◌, min}
use native.Mathlib.Omega.{arith}
use mathlib.Core.Path.{◌≡◌, refl, sym, ◌∙◌, ap}
use mathlib.Core.List.{List, ◌++◌}
use Rattle.std.specs.Prelude.{Option, Some, None, Result, Ok, Err, IfOk}
use Rattle.std.specs.Option.{ok_or}
use Rattle.std.specs.Result.{IsErrAnd}
use Rattle.std.proofs.lemmas.Result.{err_from_is_err_and}
use borrow.Author.Tests.{le-leb, lt-leb, leb-false}
use lib.Dec.{leb}
use lib.ListN.{length, take, drop, length-append}
use lib.Seq.{take_at}
use Rattle.floor.specs.declared.Floor.{Floor}
use Rattle.floor.specs.declared.Refusal.{Refusal}
use Rattle.floor.specs.Answers.{number_of, verdict_of, outcome_by}
use Rattle.laws.specs.Verdict.{passed, refused, Outcome, value, refusal, ◌then_answers◌, when_passed}
use Rattle.floor.specs.Checks.{check_of, long_enough}
use Rattle.laws.proofs.VerdictLaws.{then_both, refused_by, then_passed, refused_not_passed, demand_passes, demand_cases, when_passed_lem, gives_passed}
use Rattle.floor.proofs.LimitsLaws.{Bounds, check_tells, length_passed}
use Rattle.fields.specs.Field.{field_of}
use Rattle.fields.specs.Reached.{said_by}
use Rattle.sheet.specs.Text.{line_of}
use Rattle.sheet.specs.Values.{floor_at, walls_at}
use Rattle.sheet.specs.Read.{sheet_verdict, read_verdict, read_floor, read_walls}
use Rattle.sheet.proofs.FormLaws.{walls_length}
use Rattle.sheet.proofs.Theorems.{theorems as sheet-theorems}
use Rattle.planner.specs.Plan.{plan_of, plan_verdict, failing_of}
use Rattle.planner.specs.Records.{plan_memory}
use Rattle.records.specs.Records.{stored}
use Rattle.planner.specs.Answers.{failing_meant, planned_outcome, plan_result}
use Rattle.printing.specs.Text.{refusal_line}
use Rattle.printing.specs.Print.{print_of, text_length, printed_or, printed_outcome}
use Rattle.printing.specs.Print.{print_verdict, or_refusal, routes_of, needed_for, short_outcome, routes_outcome}
use Rattle.printing.specs.Print.{routes_memory}
use Rattle.printing.specs.Put.{TextPut, TextOrShort, FloorPut, RefusalPut, text_in}
use Rattle.printing.proofs.RecordLaws.{plan_text}

module _ (f : Floor) (ws : List ℕ) (lent : ℕ) (ok : plan_verdict f ws lent ≡ passed) where
  -- What a passed plan request tells.
  pub bounds : Bounds f
  unfolding plan_verdict
  bounds = (check_tells f ws (then_both _ _ ok).0).bounds

  pub enough : 65 * f.carriers ≤ lent
  unfolding plan_verdict
  enough = length_passed _ _ (then_both _ _ ok).1

  -- A plan that passes its checks is made.
  pub made_failing : (x : Result (Option ℕ) Refusal) (i : Option ℕ) → planned_outcome x ≡ plan_result f ws lent → x ≡ Ok i
      → failing_meant i ≡ failing_of (plan_of f ws)
  unfolding plan_result outcome_by
  made_failing x i e g =
      let h : value (failing_meant i) ≡ value (failing_of (plan_of f ws)) = sym (ap planned_outcome g) ∙ e ∙ gives_passed ok in
      cc

  pub never_refused : {y : Result (Option ℕ) Refusal} {x : Refusal} → planned_outcome y ≡ plan_result f ws lent → y ≡ Err x → ⊥
  unfolding plan_result outcome_by
  never_refused {y} {x} e g =
      let h : planned_outcome (Err x) ≡ value (failing_of (plan_of f ws)) = sym (ap planned_outcome g) ∙ e ∙ gives_passed ok in
      let z : ◌≡◌ {A = ℕ} 0 1 = cc in
      omega arith

pub memory_stored : (f : Floor) (ws old m : List ℕ) → plan_verdict f ws (length old) ≡ passed → m ≡ plan_memory f ws old
    → m ≡ stored (plan_of f ws) old
unfolding plan_memory
memory_stored f ws old m ok e = e ∙ when_passed_lem _ ok

-- The answers stored and the text put, from the planner's memory.
pub plan_put : (f : Floor) (ws old m out out' : List ℕ) (i n : ℕ) → plan_verdict f ws (length old) ≡ passed → m ≡ plan_memory f ws old
    → i ≡ failing_of (plan_of f ws) → TextPut (text_in f i m) out out' n
    → (m ≡ stored (plan_of f ws) old) × TextPut (print_of f ws) out out' n
plan_put f ws old m out out' i n ok e g t =
    let planned = memory_stored f ws old m ok e in
    let same : text_in f i m ≡ print_of f ws =
    ap (λ (j : ℕ). text_in f j m) g ∙ plan_text f ws m old (bounds f ws (length old) ok).horizon.1 planned
    in
    (planned, rw same at t)

-- A request that is granted.
module _ (f : Floor) (ws : List ℕ) where
  pub print_granted : (lent bytes : ℕ) → print_verdict f ws lent bytes ≡ passed → (plan_verdict f ws lent ≡ passed) × (text_length f ≤ bytes)
  unfolding print_verdict
  print_granted lent bytes v = let b = then_both _ _ v in (b.0, length_passed _ _ b.1)

  -- The largest memory for answers has room for those of every accepted floor.
  pub plan_granted : (lent : ℕ) → check_of f ws ≡ passed → 520 ≤ lent → plan_verdict f ws lent ≡ passed
  unfolding plan_verdict long_enough
  plan_granted lent ok l =
      let enough : 65 * f.carriers ≤ lent = omega (arith, (check_tells f ws ok).bounds.carriers.1) in
      then_passed ok ∙ demand_passes 9 0 (le-leb _ _ enough)

-- A buffer that is too short, and one that has room.
module _ (text : List ℕ) (needed k p : ℕ) (old : List ℕ) where
  pub text_short : length old < needed → TextOrShort text needed k p old old (refusal k p)
  text_short l = record { answers = rw (lt-leb _ _ l); stores = rw (lt-leb _ _ l) }

  pub text_fits : (new : List ℕ) (n : ℕ) → needed ≤ length old → TextPut text old new n → TextOrShort text needed k p old new (value n)
  text_fits new n l t = record { answers = rw (le-leb _ _ l) (ap value t.size); stores = rw (le-leb _ _ l) t.bytes }

-- The refusal of a check that finds a buffer too short, handed on.
pub short_met : (text : List ℕ) (needed : ℕ) (old : List ℕ) (y : Result ℕ Refusal) (x : Refusal)
    → verdict_of (Err x) ≡ long_enough needed (length old) → IsErrAnd y (λ d. d ≡ x)
    → TextOrShort text needed 9 0 old old (outcome_by (λ n. n) y)
unfolding verdict_of long_enough outcome_by
short_met text needed old y x h e =
    let p = err_from_is_err_and y e in
    let no = demand_cases (leb needed (length old)) 9 0 _ _ (sym h) in
    rw (p.1, p.2, no.1, no.2) (text_short text needed 9 0 old (leb-false _ _ no.0))

-- With room for the most walls a sheet's own verdict is the reader's.
module _ (text : List ℕ) (lent : ℕ) (wide : 1023 ≤ lent) where
  walls_lent : sheet_verdict text ≡ passed → long_enough (floor_at text).walls lent ≡ passed
  unfolding long_enough
  walls_lent ok =
      let b = (check_tells _ _ (sheet-theorems.read_accepted text ok)).bounds in
      let enough : (floor_at text).walls ≤ lent = omega (arith, b.walls.1) in
      demand_passes 9 0 (le-leb _ _ enough)

  pub read_refused : (k p : ℕ) → read_verdict text lent ≡ refused k p → sheet_verdict text ≡ refused k p
  unfolding read_verdict
  read_refused k p h = refused_by h (λ e. e) (λ a r. absurd (refused_not_passed (sym r ∙ walls_lent a)))

  pub read_passed : read_verdict text lent ≡ passed → sheet_verdict text ≡ passed
  unfolding read_verdict
  read_passed h = (then_both _ _ h).0

-- The floor and the walls of a sheet that was read.
pub record WasRead (text : List ℕ) (f : Floor) (walls : List ℕ) : Type 0 where
  pub accepted : sheet_verdict text ≡ passed
  pub floor : f ≡ floor_at text
  pub front : take f.walls walls ≡ walls_at text
  pub lent : f.walls ≤ length walls
  pub checked : check_of f (take f.walls walls) ≡ passed

-- A text that is read into memory for the most walls: accepted, or refused with a place that can be printed.
module _ {x : Result Floor Refusal} (text old walls : List ℕ) (f : Floor) (wide : 1023 ≡ length old)
    (r : (said_by x ≡ read_verdict text (length old)) × (IfOk x (λ f. f ≡ read_floor text (length old)) × (walls ≡ read_walls text old))) where
  pub was_read : x ≡ Ok f → WasRead text f walls
  unfolding read_floor read_walls said_by
  was_read told =
      let ok : read_verdict text (length old) ≡ passed = sym (rw told at r.0) in
      let back : f ≡ read_floor text (length old) = rw told at r.1.0 in
      let good = read_passed text (length old) (omega arith) ok in
      let floor : f ≡ floor_at text = back ∙ when_passed_lem _ ok in
      let walls_read : walls ≡ walls_at text ++ drop (floor_at text).walls old = r.1.1 ∙ when_passed_lem _ ok in
      let count : f.walls ≡ (floor_at text).walls = ap (λ (f : Floor). f.walls) floor in
      let front : take f.walls walls ≡ walls_at text =
      ap (take f.walls) walls_read ∙ take_at (walls_at text) _ f.walls (walls_length text ∙ sym count)
      in
      record {
        accepted = good;
        floor = floor;
        front = front;
        lent = omega (arith, ap length walls_read, length-append (walls_at text) (drop (floor_at text).walls old), walls_length text);
        checked = rw (front, floor) (sheet-theorems.read_accepted text good);
      }

module _ {y : Result Floor Refusal} {x : Refusal} (text old : List ℕ) (wide : 1023 ≡ length old) (r : said_by y ≡ read_verdict text (length old))
    (told : y ≡ Err x) where
  pub was_refused : sheet_verdict text ≡ refused (number_of x.reason) x.place
  unfolding said_by
  was_refused = read_refused text (length old) (omega arith) _ _ (sym (rw told at r))

  pub place_small : x.place ≤ 65535
  place_small = omega (arith, sheet-theorems.place_low text _ _ was_refused)

-- A line that was put, or the refusal handed on for want of room.
pub refusal_handed : (o : Option ℕ) (x : Refusal) (k : ℕ) (y : Result ℕ Refusal) (old new : List ℕ) → k ≡ number_of x.reason
    → y ≡ ok_or o x → RefusalPut k x.place old new (printed_or k x.place o)
    → RefusalPut (number_of x.reason) x.place old new (printed_outcome y)
unfolding outcome_by
refusal_handed None x k y old new e h p = rw h (rw e at p)
refusal_handed (Some n) x k y old new e h p = rw h (rw e at p)

-- The line of a refusal has 16 bytes.
pub refusal_length : (k p : ℕ) → length (refusal_line k p) ≡ 16
unfolding refusal_line line_of field_of
refusal_length k p = refl

-- The place of a refused sheet is printed whole.
pub place_printed : (text : List ℕ) (k p : ℕ) → sheet_verdict text ≡ refused k p → min p 65535 ≡ p
place_printed text k p v = let low = sheet-theorems.place_low text k p v in omega arith

-- From bytes to bytes: an accepted sheet, and a refused one.
module _ (text old new : List ℕ) (x : Outcome ℕ) where
  pub routes_accepted : (f : Floor) (walls : List ℕ) → WasRead text f walls
      → FloorPut f walls old new x → (x ≡ routes_outcome text (length old)) × (new ≡ routes_memory text old)
  unfolding routes_outcome routes_memory routes_of or_refusal needed_for when_passed short_outcome ◌then_answers◌ FloorPut
  routes_accepted f walls r t =
      let u : TextOrShort (print_of (floor_at text) (walls_at text)) (text_length (floor_at text)) 9 0 old new x =
      rw (r.front, r.floor) at t
      in
      (rw r.accepted u.answers, rw r.accepted u.stores)

  pub routes_refused : (k p : ℕ) → sheet_verdict text ≡ refused k p → RefusalPut k p old new x
      → (x ≡ routes_outcome text (length old)) × (new ≡ routes_memory text old)
  unfolding routes_outcome routes_memory routes_of or_refusal needed_for when_passed short_outcome ◌then_answers◌ RefusalPut
  routes_refused k p v t =
      let u : TextOrShort (refusal_line k p) 16 k p old new x = rw (place_printed text k p v) at t in
      (rw v u.answers, rw v u.stores)
