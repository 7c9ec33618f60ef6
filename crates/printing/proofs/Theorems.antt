-- The claims of the printed routes, proved.
use Prim.Native.Nat.{ℕ, ◌+◌, ◌≤◌, ◌<◌}
use native.Mathlib.Omega.{arith}
use mathlib.Core.Path.{◌≡◌, refl, sym, ◌∙◌, ap}
use mathlib.Core.List.{List}
use borrow.Author.Tests.{le-leb}
use lib.ListN.{length, take, drop}
use lib.Seq.{take_all}
use Rattle.floor.specs.declared.Floor.{Floor}
use Rattle.laws.specs.Verdict.{Verdict, passed, refused, value, when_passed}
use Rattle.floor.specs.Checks.{check_of}
use Rattle.floor.specs.Accepted.{SameFloor}
use Rattle.floor.proofs.LimitsLaws.{check_tells}
use Rattle.route.specs.Route.{Answer, none, route}
use Rattle.fields.specs.Field.{field_of}
use Rattle.sheet.specs.Text.{sheet_of, line_of}
use Rattle.sheet.specs.Values.{floor_at, walls_at}
use Rattle.sheet.specs.Read.{sheet_verdict}
use Rattle.sheet.proofs.LinesText.{lines_same}
use Rattle.sheet.proofs.Theorems.{theorems as sheet-theorems}
use Rattle.planner.specs.Plan.{plan_of, failing_of}
use Rattle.planner.specs.Claims.{answer_at}
use Rattle.planner.proofs.DependsLaws.{same_agrees}
use Rattle.planner.proofs.Theorems.{theorems as planner-theorems}
use Rattle.printing.specs.Text.{none_line, answer_line, first_line, routes_text, refusal_line}
use Rattle.printing.specs.Print.{print_of, text_length, or_refusal, routes_of, needed_for, routes_outcome}
use Rattle.printing.specs.Claims.{Claims, line_column}
use Rattle.printing.proofs.PutLaws.{first_length, none_length}
use Rattle.printing.proofs.LinesLaws.{line_at, text_within}

-- Records that are the same floor have the same printed routes.
module _ (f : Floor) (ws : List ℕ) (f' : Floor) (ws' : List ℕ) (same : SameFloor f ws f' ws') where
  pub plans_same : plan_of f ws ≡ plan_of f' ws'
  plans_same =
      let n = f.carriers in
      sym (take_all n (plan_of f ws) (omega (arith, planner-theorems.answers_all f ws)))
      ∙ planner-theorems.depends_on_above n f ws f' ws' (omega arith) (omega (arith, same.outline.carriers))
      (same_agrees f ws f' ws' same)
      ∙ take_all n (plan_of f' ws') (omega (arith, planner-theorems.answers_all f' ws', same.outline.carriers))

  answer_same : (i : ℕ) (x : Answer) → i < f.carriers → answer_line f i x ≡ answer_line f' i x
  unfolding answer_line
  answer_same i none l = refl
  answer_same i (route r) l = rw same.outline.horizon

  text_same : (xs : List Answer) → routes_text f xs ≡ routes_text f' xs
  unfolding routes_text first_line
  text_same xs =
      rw (
        lines_same (λ i. answer_line f i (answer_at xs i)) (λ i. answer_line f' i (answer_at xs i)) f.carriers
            (λ i l. answer_same i (answer_at xs i) l),
        same.outline.carriers,
      )

  pub print_same : print_of f ws ≡ print_of f' ws'
  unfolding print_of
  print_same = text_same (plan_of f ws) ∙ ap (routes_text f') plans_same

routes_accepted : (text : List ℕ) → sheet_verdict text ≡ passed
    → routes_of text ≡ routes_text (floor_at text) (plan_of (floor_at text) (walls_at text))
unfolding routes_of or_refusal print_of
routes_accepted text e = rw e

routes_refused : (text : List ℕ) (k p : ℕ) → sheet_verdict text ≡ refused k p → routes_of text ≡ refusal_line k p
unfolding routes_of or_refusal
routes_refused text k p e = rw e

routes_of_sheet : (f : Floor) (ws : List ℕ) → check_of f ws ≡ passed → routes_of (sheet_of f ws) ≡ print_of f ws
unfolding print_of
routes_of_sheet f ws ok =
    routes_accepted (sheet_of f ws) (sheet-theorems.has_sheet f ws ok)
    ∙ sym (print_same f ws _ _ (sheet-theorems.floor_returns f ws ok))

line_stands : (f : Floor) (ws : List ℕ) (k : ℕ) → k < f.carriers
    → take (length (answer_line f k (answer_at (plan_of f ws) k))) (drop (line_column f ws k) (print_of f ws))
    ≡ answer_line f k (answer_at (plan_of f ws) k)
unfolding line_column print_of routes_text
line_stands f ws k l =
    let first = first_line f (failing_of (plan_of f ws)) in
    rw (← first_length f (failing_of (plan_of f ws)))
    (line_at (λ i. answer_line f i (answer_at (plan_of f ws) i)) first f.carriers k l)

none_line_lem : (f : Floor) (ws : List ℕ) (k : ℕ) → answer_at (plan_of f ws) k ≡ none → answer_line f k (answer_at (plan_of f ws) k) ≡ none_line
    (k + 1)
unfolding answer_line
none_line_lem f ws k e = rw e

none_printed : (f : Floor) (ws : List ℕ) (k : ℕ) → k < f.carriers → answer_at (plan_of f ws) k ≡ none
    → take 11 (drop (line_column f ws k) (print_of f ws)) ≡ none_line (k + 1)
none_printed f ws k l e =
    let line = none_line_lem f ws k e in
    ap (λ (n : ℕ). take n (drop (line_column f ws k) (print_of f ws))) (sym (ap length line ∙ none_length (k + 1)))
    ∙ line_stands f ws k l
    ∙ line

print_within : (f : Floor) (ws : List ℕ) → check_of f ws ≡ passed → length (print_of f ws) ≤ text_length f
unfolding print_of text_length
print_within f ws ok = omega (arith, text_within f (plan_of f ws) (check_tells f ws ok).bounds.horizon.1)

refusal_length : (k p : ℕ) → length (refusal_line k p) ≡ 16
unfolding refusal_line line_of field_of
refusal_length k p = refl

routes_within : (text : List ℕ) → (length (routes_of text) ≤ needed_for text) × (needed_for text ≤ 2659)
unfolding routes_of or_refusal needed_for when_passed text_length
routes_within text = go (sheet_verdict text) refl
  where
    accepted : sheet_verdict text ≡ passed
        → (length (print_of (floor_at text) (walls_at text)) ≤ text_length (floor_at text)) × (text_length (floor_at text) ≤ 2659)
    accepted e =
        let ok = sheet-theorems.read_accepted text e in
        (print_within (floor_at text) (walls_at text) ok, omega (arith, (check_tells _ _ ok).bounds.carriers.1))

    go : (x : Verdict) → sheet_verdict text ≡ x → (length (routes_of text) ≤ needed_for text) × (needed_for text ≤ 2659)
    go passed e = rw e (accepted e)
    go (refused k p) e = rw e (omega (arith, refusal_length k p), omega arith)

always_written : (text : List ℕ) (bytes : ℕ) → 2659 ≤ bytes → routes_outcome text bytes ≡ value (length (routes_of text))
unfolding routes_outcome
always_written text bytes l =
    let enough : needed_for text ≤ bytes = omega (arith, (routes_within text).1) in
    rw (le-leb _ _ enough)

pub theorems : Claims
theorems =
    record {
      routes_accepted = routes_accepted;
      routes_refused = routes_refused;
      routes_of_sheet = routes_of_sheet;
      line_stands = line_stands;
      none_printed = none_printed;
      text_within = print_within;
      routes_within = routes_within;
      always_written = always_written;
    }
