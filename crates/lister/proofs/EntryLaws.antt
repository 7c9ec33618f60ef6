-- What passed checks of the lister tell, and what is in the one line of a window after a listing.
use Prim.Native.Nat.{ℕ, zero, suc, ◌+◌, ◌*◌, ◌-◌, ◌/◌, ◌≤◌, ◌<◌}
use native.Mathlib.Omega.{arith}
use native.Mathlib.Nat.{eq-or-lt_of_le}
use mathlib.Core.List.{List, [], ◌∷◌}
use mathlib.Core.Logic.{⊎_elim}
use mathlib.Core.Path.{◌≡◌, refl, sym, ◌∙◌, ap}
use lib.Dec.{leb}
use lib.ListN.{length, get_or, take, drop}
use lib.Seq.{take_at}
use borrow.Author.Tests.{leb-true, lt-ltb, le-ltb}
use Rattle.laws.specs.Verdict.{Outcome, value, refusal, passed, refused, ◌then◌, demand}
use Rattle.laws.specs.Memory.{put}
use Rattle.laws.proofs.PutLaws.{put_length}
use Rattle.laws.proofs.VerdictLaws.{then_both, then_passed, demand_holds, demand_passes, gives_passed, gives_refused, when_passed_lem}
use Rattle.laws.proofs.VerdictLaws.{when_refused}
use Rattle.floor.specs.declared.Floor.{Floor}
use Rattle.floor.specs.Checks.{check_of}
use Rattle.floor.proofs.LimitsLaws.{length_passed}
use Rattle.floor.proofs.Theorems.{theorems as floor-theorems}
use Rattle.reference.specs.State.{Machine, State, fresh}
use Rattle.reference.specs.Take.{after_step}
use Rattle.encoding.specs.Places.{pairs_before, state_size}
use Rattle.encoding.specs.Calls.{machine_of}
use Rattle.search.specs.Rows.{FreeRows}
use Rattle.steps.specs.Inner.{Placed}
use Rattle.trial.specs.Report.{report_numbers, report_size}
use Rattle.trial.proofs.EntryLaws.{checked_carriers}
use Rattle.trial.proofs.ReportLaws.{numbers_length}
use Rattle.listing.specs.Runs.{Run, runs_of, total, run_at, report_from}
use Rattle.listing.proofs.Theorems.{theorems as listing-theorems}
use Rattle.reference.specs.Quiescent.{ceiling}
use Rattle.lister.specs.Lines.{line_written, listed_from}
use Rattle.lister.specs.Entry.{total_of, run_of_rank, small_verdict, list_verdict, rank_verdict, Figures}
use Rattle.lister.specs.Entry.{rank_outcome, run_numbers, report_listed}
use Rattle.lister.specs.declared.node.Node.{Node}
use Rattle.lister.specs.Inner.{Rooted, Branch}
use Rattle.lister.proofs.SameLaws.{ceiling_few}
use Rattle.lister.proofs.LineLaws.{written_before, written_behind, written_there}

-- What passed checks tell: an accepted floor, room for the report, three carriers at most.
pub record Small (f : Floor) (ws : List ℕ) (report : ℕ) : Type 0 where
  pub checked : check_of f ws ≡ passed
  pub wide : report_size f.carriers ≤ report
  pub few : f.carriers ≤ 3

pub small_tells : (f : Floor) (ws : List ℕ) (report : ℕ) → small_verdict f ws report ≡ passed → Small f ws report
unfolding small_verdict
small_tells f ws report h =
    let a = then_both _ _ h in
    let b = then_both _ _ a.1 in
    record {
      checked = a.0;
      wide = length_passed _ _ b.0;
      few = leb-true f.carriers 3 (demand_holds (leb f.carriers 3) 14 0 b.1);
    }

-- The length of a report, as the code asks for it behind a check of the floor that passed.
pub report_asked : (f : Floor) (ws : List ℕ) (most : ℕ) → check_of f ws ≡ passed
    → (1 ≤ f.carriers → f.carriers ≤ 8 → most ≡ ceiling f.carriers) × (most ≤ 512) → 2 * most ≡ report_size f.carriers
unfolding report_size
report_asked f ws most v m = let n = checked_carriers f ws v in rw (m.0 n.0 n.1)

pub list_tells : (f : Floor) (ws : List ℕ) → list_verdict f ws ≡ passed → (check_of f ws ≡ passed) × (f.carriers ≤ 3)
unfolding list_verdict
list_tells f ws h =
    let a = then_both _ _ h in (a.0, leb-true f.carriers 3 (demand_holds (leb f.carriers 3) 14 0 a.1))

-- The report of a run has an entry a step.
entries : (M : Machine) (s : State) (ys : Run) → length (report_from M s ys) ≡ length ys
unfolding report_from
entries M s [] = refl
entries M s (y ∷ ys) = ap suc (entries M (after_step M s y) ys)

pub report_length_lem : (M : Machine) (xs : Run) → length (report_numbers (report_from M fresh xs)) ≡ 2 * length xs
report_length_lem M xs = numbers_length (report_from M fresh xs) ∙ ap (λ (k : ℕ). 2 * k) (entries M fresh xs)

-- A window of one line: it gets the run of its rank.
module _ (M : Machine) where
  abbrev Numbers : Run → List ℕ
  Numbers xs = report_numbers (report_from M fresh xs)

  one : (lines : List ℕ) → length lines ≡ 23 → length lines / 23 ≡ 1
  one lines e = rw e refl

  -- Runs behind the window's rank are not written.
  lines_behind : (first rank : ℕ) (ys : List Run) (lines : List ℕ) → length lines ≡ 23 → first < rank →
      listed_from M first rank ys lines ≡ lines
  unfolding listed_from
  lines_behind first rank [] lines long l = refl
  lines_behind first rank (xs ∷ ys) lines long l =
      ap (listed_from M first (suc rank) ys)
      (sym (written_behind first rank (length xs) (Numbers xs) lines (omega arith) (omega (arith, one lines long))))
      ∙ lines_behind first (suc rank) ys lines long (omega arith)

  pub lines_one : (first rank : ℕ) (ys : List Run) (lines : List ℕ) → length lines ≡ 23 → rank ≤ first → first - rank < length ys →
      length (get_or ys (first - rank) []) ≤ 11 →
      listed_from M first rank ys lines ≡ put lines 0 (length (get_or ys (first - rank) []) ∷ Numbers (get_or ys (first - rank) []))
  unfolding listed_from
  lines_one first rank [] lines long l h few = absurd (omega arith)
  lines_one first rank (xs ∷ ys) lines long l h few =
      ⊎_elim (λ (e : rank ≡ first). here e)
      (λ (k : rank < first).
      let less : first - rank ≡ suc (first - suc rank) = omega arith in
      ap (listed_from M first (suc rank) ys) (sym (written_before first rank (length xs) (Numbers xs) lines k))
      ∙ lines_one first (suc rank) ys lines long (omega arith) (omega arith) (rw less at few)
      ∙ rw less refl)
      (eq-or-lt_of_le l)
    where
      here : rank ≡ first → listed_from M first (suc rank) ys (line_written first rank (length xs) (Numbers xs) lines) ≡
          put lines 0 (length (get_or (xs ∷ ys) (first - rank) []) ∷ Numbers (get_or (xs ∷ ys) (first - rank) []))
      here e =
          let none : first - rank ≡ 0 = omega arith in
          let zeroth : 23 * (rank - first) ≡ 0 = omega arith in
          let there = written_there first rank (length xs) (Numbers xs) lines (omega arith) (omega (arith, one lines long)) in
          let stays : length (put lines 0 (length xs ∷ Numbers xs)) ≡ 23 =
          put_length lines (length xs ∷ Numbers xs) 0 (omega (arith, report_length_lem M xs, rw none at few)) ∙ long
          in
          ap (listed_from M first (suc rank) ys) (there ∙ ap (λ (at : ℕ). put lines at (length xs ∷ Numbers xs)) zeroth)
          ∙ lines_behind first (suc rank) ys (put lines 0 (length xs ∷ Numbers xs)) stays (omega arith)
          ∙ rw none refl

-- The state of three carriers has 1,181 numbers.
pub state_small : (n : ℕ) → n ≤ 3 → state_size n ≤ 1181
unfolding state_size pairs_before
state_small zero l = omega arith
state_small (suc zero) l = omega arith
state_small (suc (suc zero)) l = omega arith
state_small (suc (suc (suc zero))) l = omega arith
state_small (suc (suc (suc (suc n)))) l = absurd (omega arith)

-- What the walk from the root requires.
module _ (f : Floor) (ws : List ℕ) (ok : check_of f ws ≡ passed) (few : f.carriers ≤ 3) where
  pub root_placed : Placed f ws 1181
  root_placed = record { accepted = (floor-theorems.passes_exactly f ws).0 ok; enough = state_small f.carriers few }

  pub root_branch : (rows : List ℕ) (node : Node) (left : ℕ) → Rooted f.carriers node → FreeRows f ws rows →
      left ≡ ceiling f.carriers →
      Branch f ws rows node left
  root_branch rows node left rooted free e =
      record {
        works = record { placed = rw rooted.long root_placed; free = free };
        few = few;
        short = omega (arith, rooted.none, e, ceiling_few f.carriers few);
      }

-- The line of the run of a rank below the total.
pub record FoundLine (f : Floor) (ws : List ℕ) (rank : ℕ) (line : List ℕ) : Type 0 where
  pub steps : get_or line 0 0 ≡ length (run_of_rank f ws rank)
  pub numbers : take (2 * length (run_of_rank f ws rank)) (drop 1 line) ≡ run_numbers f ws rank
  pub size : length (run_numbers f ws rank) ≡ 2 * length (run_of_rank f ws rank)
  pub short : length (run_of_rank f ws rank) ≤ ceiling f.carriers

pub size_of : (f : Floor) (ws : List ℕ) (rank : ℕ) → length (run_numbers f ws rank) ≡ 2 * length (run_of_rank f ws rank)
unfolding run_numbers
size_of f ws rank = report_length_lem (machine_of f ws) (run_of_rank f ws rank)

module _ (f : Floor) (ws : List ℕ) (few : f.carriers ≤ 3) (rank : ℕ) (below : rank < total_of f ws) where
  run_short : length (run_of_rank f ws rank) ≤ ceiling f.carriers
  unfolding run_of_rank total_of machine_of
  run_short = listing-theorems.within_ceiling (machine_of f ws) rank below

  line_is : (line₀ line : List ℕ) → length line₀ ≡ 23 → line ≡ listed_from (machine_of f ws) rank 0 (runs_of (machine_of f ws)) line₀ →
      line ≡ put line₀ 0 (length (run_of_rank f ws rank) ∷ run_numbers f ws rank)
  unfolding run_of_rank run_at run_numbers total_of total
  line_is line₀ line long e =
      let same : rank - 0 ≡ rank = omega arith in
      e ∙ rw same at
      (lines_one (machine_of f ws) rank 0 (runs_of (machine_of f ws)) line₀ long (omega arith) (omega arith)
      (rw same (omega (arith, run_short, ceiling_few f.carriers few))))

  pub found_line : (line₀ line : List ℕ) → length line₀ ≡ 23 →
      line ≡ listed_from (machine_of f ws) rank 0 (runs_of (machine_of f ws)) line₀ → FoundLine f ws rank line
  unfolding put
  found_line line₀ line long e =
      let is = line_is line₀ line long e in
      let sized = size_of f ws rank in
      record {
        steps = ap (λ (xs : List ℕ). get_or xs 0 0) is;
        numbers = ap (λ (xs : List ℕ). take (2 * length (run_of_rank f ws rank)) (drop 1 xs)) is
            ∙ take_at (run_numbers f ws rank) (drop (0 + suc (length (run_numbers f ws rank))) line₀)
            (2 * length (run_of_rank f ws rank)) sized;
        size = sized;
        short = run_short;
      }

-- The numbers of a line behind its first, as the code takes them.
pub part_is : (report report' line : List ℕ) (k : ℕ) → report' ≡ put report 0 (take (2 * k + 1 - 1) (drop 1 line)) →
    report' ≡ put report 0 (take (2 * k) (drop 1 line))
part_is report report' line k e =
    let less : 2 * k + 1 - 1 ≡ 2 * k = omega arith in e ∙ ap (λ (n : ℕ). put report 0 (take n (drop 1 line))) less

-- A rank is below the total that the code counted, or not.
pub not_below : {all total rank : ℕ} → all ≡ total → all ≤ rank → total ≤ rank
not_below e l = omega arith

pub is_below : {all total rank : ℕ} → all ≡ total → rank < all → rank < total
is_below e l = omega arith

-- The entry on a small floor, by whether the rank is below the total.
module _ (f : Floor) (ws : List ℕ) (rank : ℕ) (m : List ℕ) (ok : small_verdict f ws (length m) ≡ passed) where
  module _ (beyond : total_of f ws ≤ rank) where
    no_run : rank_verdict f ws rank (length m) ≡ refused 15 0
    unfolding rank_verdict demand
    no_run = then_passed ok ∙ rw (le-ltb rank (total_of f ws) beyond) refl

    pub refused_answer : refusal 15 0 ≡ rank_outcome f ws rank (length m)
    unfolding rank_outcome
    refused_answer = sym (gives_refused _ no_run)

    pub refused_report : m ≡ report_listed f ws rank m
    unfolding report_listed
    refused_report = sym (when_refused _ no_run)

  module _ (below : rank < total_of f ws) where
    a_run : rank_verdict f ws rank (length m) ≡ passed
    unfolding rank_verdict
    a_run = then_passed ok ∙ demand_passes 15 0 (lt-ltb rank (total_of f ws) below)

    pub found_answer : (all steps : ℕ) → all ≡ total_of f ws → steps ≡ length (run_of_rank f ws rank) →
        ◌≡◌ {A = Outcome Figures} (value (record { runs = all; steps = steps })) (rank_outcome f ws rank (length m))
    unfolding rank_outcome
    found_answer all steps e h = rw (e, h) (sym (gives_passed a_run))

    pub found_report : (m' : List ℕ) → m' ≡ put m 0 (run_numbers f ws rank) → m' ≡ report_listed f ws rank m
    unfolding report_listed
    found_report m' e = e ∙ sym (when_passed_lem _ a_run)

-- A refusal before 15 is the entry's.
pub small_refused : {k p : ℕ} (f : Floor) (ws : List ℕ) (rank : ℕ) (m : List ℕ) → small_verdict f ws (length m) ≡ refused k p →
    (refusal k p ≡ rank_outcome f ws rank (length m)) × (m ≡ report_listed f ws rank m)
unfolding rank_outcome report_listed rank_verdict ◌then◌
small_refused {k} {p} f ws rank m e =
    let refused-whole : rank_verdict f ws rank (length m) ≡ refused k p = rw e refl in
    (sym (gives_refused _ refused-whole), sym (when_refused _ refused-whole))

-- What the report of the run of a rank requires of its line, and that it is the run.
module _ (f : Floor) (ws : List ℕ) (rank lent : ℕ) (small : Small f ws lent) (line : List ℕ) (found : FoundLine f ws rank line) where
  pub line_serves : (get_or line 0 0 ≤ 11) × (2 * get_or line 0 0 ≤ lent)
  unfolding report_size
  line_serves =
      let most = ceiling_few f.carriers small.few in
      (omega (arith, found.steps, found.short, most), omega (arith, found.steps, found.short, small.wide))

  pub line_report : (report report' : List ℕ) → report' ≡ put report 0 (take (2 * get_or line 0 0) (drop 1 line)) →
      report' ≡ put report 0 (run_numbers f ws rank)
  line_report report report' e =
      e ∙ ap (λ (k : ℕ). put report 0 (take (2 * k) (drop 1 line))) found.steps ∙ ap (put report 0) found.numbers
