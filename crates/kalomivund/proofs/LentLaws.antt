-- The lent memory of each exported function: kept with a refusal, and never written beyond its needed length.
use Prim.Native.Nat.{ℕ, ◌*◌}
use native.Mathlib.Omega.{arith}
use mathlib.Core.Bool.{Bool, true, false, cond}
use mathlib.Core.Path.{◌≡◌, refl}
use mathlib.Core.List.{List}
use lib.Dec.{leb}
use lib.ListN.{length, length-append, replicate}
use lib.Seq.{drop_at}
use Rattle.laws.specs.Verdict.{Verdict, passed, refused, Outcome, value, refusal, ◌then_answers◌}
use Rattle.laws.specs.Memory.{put}
use Rattle.laws.proofs.PutLaws.{put_beyond}
use Rattle.laws.proofs.VerdictLaws.{then_both}
use Rattle.floor.specs.declared.Floor.{Floor}
use Rattle.floor.specs.Checks.{check_of}
use Rattle.floor.proofs.LimitsLaws.{check_tells}
use Rattle.route.specs.Route.{Answer, none, route}
use Rattle.sheet.specs.Text.{sheet_of, sheet_length}
use Rattle.sheet.specs.Values.{floor_at, walls_at, starts_at, counts_at, docks_at}
use Rattle.sheet.specs.Read.{write_verdict, write_sheet}
use Rattle.sheet.proofs.ListedLaws.{listed_length}
use Rattle.sheet.proofs.FormLaws.{walls_length}
use Rattle.sheet.proofs.Theorems.{theorems as sheet-theorems}
use Rattle.kalomivund.specs.Answers.{cells_of}
use Rattle.search.proofs.Theorems.{theorems as search-theorems}
use Rattle.planner.specs.Plan.{plan_verdict}
use Rattle.planner.specs.Answers.{plan_result}
use Rattle.records.specs.Records.{stored}
use Rattle.planner.specs.Records.{plan_memory}
use Rattle.planner.proofs.ResultLaws.{plan_size}
use Rattle.printing.specs.Print.{routes_of, needed_for, routes_outcome, routes_memory, short_outcome}
use Rattle.printing.proofs.Theorems.{theorems as printing-theorems}
use Rattle.reference.specs.State.{fresh as freshState}
use Rattle.encoding.specs.Places.{state_size}
use Rattle.encoding.specs.Calls.{place_verdict, fresh_memory}
use Rattle.encoding.proofs.StateLaws.{encode_beyond}
use Rattle.abi.specs.Word.{done, word_of, map_outcome, of_number}
use Rattle.abi.specs.Record.{floor_of, numbers_of}
use Rattle.kalomivund.specs.Answers.{of_search, answer_done, route_stored, figure_list}
use Rattle.kalomivund.specs.Entries.{read_lent, read_word, read_record, read_stored, write_word, write_stored}
use Rattle.kalomivund.specs.Entries.{needed_verdict, needed_word, needed_stored, search_lent, search_word, search_stored}
use Rattle.kalomivund.specs.Entries.{plan_word, plan_stored, print_word, print_stored, fresh_word, fresh_stored}
use Rattle.kalomivund.specs.Claims.{KeepsLent}
use Rattle.kalomivund.proofs.KeepLaws.{done_not_refused, checked_lent, record_lent_lem}

-- A record that is read has 54 numbers.
record_size : (text : List ℕ) → length (numbers_of (floor_at text)) ≡ 54
unfolding numbers_of floor_at starts_at counts_at docks_at
record_size text = simp (length-append, listed_length) refl

pub read_record_lem : (text xs : List ℕ) (walls : ℕ) → KeepsLent 54 (read_word text (length xs) walls) (read_record text xs walls) xs
unfolding read_word read_record of_number
read_record_lem text xs walls =
    checked_lent (done 0) (read_lent text (length xs) walls) 0 _ xs (λ e. put_beyond xs _ 54 (omega (arith, record_size text)))

pub read_walls_lem : (text old : List ℕ) (lent : ℕ)
    → KeepsLent (floor_at text).walls (read_word text lent (length old)) (read_stored text lent old) old
unfolding read_word read_stored of_number
read_walls_lem text old lent =
    checked_lent (done 0) (read_lent text lent (length old)) 0 _ old (λ e. drop_at (walls_at text) _ _ (walls_length text))

pub write_sheet_lem : (xs ws old : List ℕ) → KeepsLent (sheet_length (floor_of xs)) (write_word xs ws (length old)) (write_stored xs ws old) old
unfolding write_word write_stored write_sheet of_number
write_sheet_lem xs ws old =
    let f = floor_of xs in
    record_lent_lem xs _ _ old
    (checked_lent (done 0) (write_verdict f ws (length old)) (sheet_length f) _ old
    (λ e. drop_at (sheet_of f ws) _ _ (sheet-theorems.sheet_length_lem f ws)))

pub needed_lengths : (xs old : List ℕ) → KeepsLent 9 (needed_word xs (length old)) (needed_stored xs old) old
unfolding needed_word needed_stored of_number figure_list
needed_lengths xs old =
    record_lent_lem xs _ _ old
    (checked_lent (done 0) (needed_verdict (floor_of xs) (length old)) 0 _ old (λ e. put_beyond old _ 9 (omega arith)))

pub plan : (xs ws old : List ℕ) → KeepsLent (65 * (floor_of xs).carriers) (plan_word xs ws (length old)) (plan_stored xs ws old) old
unfolding plan_word plan_stored plan_result plan_memory stored plan_verdict of_number
plan xs ws old =
    let f = floor_of xs in
    record_lent_lem xs _ _ old
    (checked_lent (done 0) (plan_verdict f ws (length old)) _ _ old
    (λ e.
    let h = (check_tells f ws (then_both (check_of f ws) _ e).0).bounds.horizon.1 in
    put_beyond old _ (65 * f.carriers) (omega (arith, plan_size f ws h))))

pub fresh : (xs ws old : List ℕ) → KeepsLent (state_size (floor_of xs).carriers) (fresh_word xs ws (length old)) (fresh_stored xs ws old) old
unfolding fresh_word fresh_stored fresh_memory of_number
fresh xs ws old =
    let f = floor_of xs in
    record_lent_lem xs _ _ old
    (checked_lent (done 0) (place_verdict f ws (length old)) 0 _ old
    (λ e. encode_beyond f.carriers freshState old))

pub print_routes : (text old : List ℕ) → KeepsLent (needed_for text) (print_word text (length old)) (print_stored text old) old
unfolding print_word print_stored routes_outcome routes_memory of_number map_outcome
print_routes text old = go (leb (needed_for text) (length old))
  where
    go : (x : Bool) → KeepsLent (needed_for text)
        (word_of (map_outcome (done 0) (cond x (value (length (routes_of text))) (short_outcome text))))
        (cond x (put old 0 (routes_of text)) old) old
    go true =
        record {
          kept = λ e. absurd (done_not_refused _ e);
          beyond = put_beyond old (routes_of text) (needed_for text) (printing-theorems.routes_within text).0;
        }
    go false = record { kept = λ e. refl; beyond = refl }

-- What checks let through is what they were asked for.
answered_through : {A : Type 0} (x : Verdict) (y : Outcome A) (z : A) → (x then_answers y) ≡ value z → y ≡ value z
unfolding ◌then_answers◌
answered_through passed y z e = e
answered_through (refused k p) y z e = absurd (let z : ◌≡◌ {A = ℕ} 0 1 = cc in omega arith)

pub search : (xs ws : List ℕ) (i : ℕ) (m old : List ℕ) → KeepsLent 64 (search_word xs ws i m (length old)) (search_stored xs ws i m old) old
unfolding search_word search_stored search_lent of_search map_outcome route_stored cells_of
search xs ws i m old = record_lent_lem xs _ _ old (go (search_lent f ws i m (length old)) refl)
  where
    f : Floor
    f = floor_of xs

    go : (x : Outcome Answer) → search_lent f ws i m (length old) ≡ x
        → KeepsLent 64 (word_of (map_outcome answer_done x)) (route_stored x old) old
    go (value none) e =
        record { kept = λ h. absurd (done_not_refused _ h); beyond = put_beyond old (replicate 64 0) 64 (omega arith) }
    go (value (route r)) e =
        let long = (search-theorems.answers_route f ws i m r (answered_through _ _ (route r) e)).0.long in
        record { kept = λ h. absurd (done_not_refused _ h); beyond = put_beyond old r 64 (omega arith) }
    go (refusal k p) e = record { kept = λ h. refl; beyond = refl }
