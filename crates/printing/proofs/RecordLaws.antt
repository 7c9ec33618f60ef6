-- The answers read back from memory are the plan's, so the text for a memory with a plan is the text of the plan.
use Prim.Native.Nat.{ℕ, zero, suc, ◌+◌, ◌*◌, ◌≤◌, ◌<◌}
use native.Mathlib.Omega.{arith}
use native.Mathlib.Nat.{add-zero}
use mathlib.Core.Path.{◌≡◌, refl, sym, ◌∙◌, ap}
use mathlib.Core.List.{List, [], ◌∷◌, ◌++◌, append_assoc}
use lib.ListN.{length, length-append}
use Rattle.laws.specs.Memory.{put}
use Rattle.floor.specs.declared.Floor.{Floor}
use Rattle.route.specs.Route.{Answer, none, route}
use Rattle.sheet.proofs.LinesText.{lines_same}
use Rattle.planner.specs.Plan.{respond_of, plan_of, failing_from, failing_of}
use Rattle.records.specs.Records.{record_of, records_of, stored, shown, view_at, answer_in}
use Rattle.planner.specs.Claims.{answer_at}
use Rattle.records.proofs.RecordLaws.{Whole, record_view}
use Rattle.planner.proofs.FailingLaws.{AllWhole, plan_count, front}
use Rattle.planner.proofs.ResultLaws.{plan_all_whole}
use Rattle.printing.specs.Text.{answer_line, first_line, routes_text}
use Rattle.printing.specs.Print.{print_of}
use Rattle.printing.specs.Put.{line_in, lines_in, text_in}

-- The answer in a record is the answer whose record it is.
answer_front : (x : Answer) (m pre rest : List ℕ) (i : ℕ) → m ≡ pre ++ (record_of x ++ rest) → length pre ≡ 65 * i → Whole x
    → answer_in m i ≡ x
unfolding answer_in shown
answer_front x m pre rest i e s w = ap (λ (xs : List ℕ). shown (view_at xs i)) e ∙ ap shown (record_view pre rest x i s w)

-- Record k of a plan's records, which begin at record i of a memory, has the plan's answer k.
answers_in : (xs : List Answer) (m pre rest : List ℕ) (i k : ℕ) → m ≡ pre ++ (records_of xs ++ rest) → length pre ≡ 65 * i → AllWhole xs
    → k < length xs → answer_in m (i + k) ≡ answer_at xs k
unfolding answer_at
answers_in [] m pre rest i k e s a l = absurd (omega arith)
answers_in (x ∷ xs) m pre rest i zero e s a l =
    rw add-zero (answer_front x m pre (records_of xs ++ rest) i (front x xs m pre rest e) s a.0)
answers_in (x ∷ xs) m pre rest i (suc k) e s a l =
    let behind : m ≡ (pre ++ record_of x) ++ (records_of xs ++ rest) =
    front x xs m pre rest e ∙ sym (append_assoc pre (record_of x) (records_of xs ++ rest))
    in
    let size : length (pre ++ record_of x) ≡ 65 * (i + 1) = length-append pre (record_of x) ∙ omega (arith, a.0) in
    let place : i + suc k ≡ (i + 1) + k = omega arith in
    rw place (answers_in xs m (pre ++ record_of x) rest (i + 1) k behind size a.1 (omega arith))

-- The text for a memory that has answers in front is the text of the answers.
text_same : (f : Floor) (xs : List Answer) (m old : List ℕ) → m ≡ stored xs old → AllWhole xs → length xs ≡ f.carriers
    → text_in f (failing_of xs) m ≡ routes_text f xs
unfolding text_in lines_in line_in routes_text stored put
text_same f xs m old e a n =
    ap (λ (ys : List ℕ). first_line f (failing_of xs) ++ ys)
    (lines_same (line_in f m) (λ i. answer_line f i (answer_at xs i)) f.carriers
    (λ i l. ap (answer_line f i) (ap (answer_in m) (zero_plus i) ∙ answers_in xs m [] _ 0 i e refl a (omega arith))))
  where
    zero_plus : (i : ℕ) → i ≡ 0 + i
    zero_plus i = omega arith

-- The failing carrier is a small number.
failing_high : (xs : List Answer) (k : ℕ) → failing_from k xs ≤ k + length xs
unfolding failing_from
failing_high [] k = omega arith
failing_high (none ∷ xs) k = omega arith
failing_high (route r ∷ xs) k = omega (arith, failing_high xs (suc k))

module _ (f : Floor) (ws : List ℕ) where
  plan_length : length (plan_of f ws) ≡ f.carriers
  unfolding plan_of
  plan_length = plan_count (respond_of f ws) f.carriers

  pub failing_small : f.carriers ≤ 8 → failing_of (plan_of f ws) ≤ 9
  unfolding failing_of
  failing_small l = omega (arith, failing_high (plan_of f ws) 1, plan_length)

  pub plan_text : (m old : List ℕ) → f.horizon ≤ 63 → m ≡ stored (plan_of f ws) old → text_in f (failing_of (plan_of f ws)) m ≡ print_of f ws
  unfolding print_of
  plan_text m old h e = text_same f (plan_of f ws) m old e (plan_all_whole f ws h) plan_length
