-- The claims about the exported functions; `proofs/Theorems.antt` inhabits the record.
use Rattle.std.specs.Prelude.{ℕ, ◌+◌, ◌*◌, ◌%◌, ◌≤◌, ◌<◌, ◌≡◌, ◌↔◌, List, length, drop}
use Rattle.laws.specs.Verdict.{passed, refused, value, refusal}
use Rattle.floor.specs.declared.Floor.{Floor}
use Rattle.floor.specs.Checks.{check_of, limits_of}
use Rattle.route.specs.Route.{none, route}
use Rattle.route.specs.FirstConflict.{same_cell, change_of_places, following, free, dated}
use Rattle.sheet.specs.Values.{floor_at}
use Rattle.sheet.specs.Read.{sheet_verdict}
use Rattle.printing.specs.Print.{needed_for}
use Rattle.lengths.specs.Figures.{lengths_of}
use Rattle.reference.specs.Take.{kept, sent, delivered}
use Rattle.reference.specs.Ending.{silent, spent, ended}
use Rattle.reference.specs.Calls.{stepped, ran}
use Rattle.legality.specs.Entry.{a_route, a_none, not_heard, wrong}
use Rattle.abi.specs.Word.{word_of, of_number}
use Rattle.abi.specs.Record.{floor_of, record_lent}
use Rattle.kalomivund.specs.Answers.{of_search, of_reply, of_rank, of_conflict, of_record}
use Rattle.kalomivund.specs.Entries.{read_lent, read_word, read_record, read_stored, write_word, write_stored}
use Rattle.kalomivund.specs.Entries.{needed_verdict, needed_word, needed_stored, search_lent, search_word, search_stored}
use Rattle.kalomivund.specs.Entries.{plan_word, plan_stored, print_word, print_stored, fresh_word, fresh_stored}
use Rattle.kalomivund.specs.Entries.{step_word, step_stored, run_word, run_stored, ceiling_word}
use Rattle.kalomivund.specs.Entries.{trial_word, trial_state_stored, trial_report_stored, rank_word, rank_stored}
use Rattle.kalomivund.specs.Entries.{blockers_word, blockers_stored}

-- A word says refused: its low byte is 1.
abbrev pub SaysRefused : ℕ → Type 0
SaysRefused w = w % 256 ≡ 1

-- A call with word w that finds memory `old` and leaves `new`: a refusal leaves it as it was found, and what lies beyond the needed
-- length stays in any case.
pub record KeepsLent (needed w : ℕ) (new old : List ℕ) : Type 0 where
  pub kept : SaysRefused w → new ≡ old
  pub beyond : drop needed new ≡ drop needed old

pub record Claims : Type 0 where
  -- Each lent memory that an exported function writes, with the needed length that `lengths::needed_lengths` gives.
  pub read_record_lem : (text xs : List ℕ) (walls : ℕ)
      → KeepsLent (lengths_of (floor_at text)).floor (read_word text (length xs) walls) (read_record text xs walls) xs
  pub read_walls_lem : (text old : List ℕ) (lent : ℕ)
      → KeepsLent (lengths_of (floor_at text)).walls (read_word text lent (length old)) (read_stored text lent old) old
  pub write_sheet_lem : (xs ws old : List ℕ)
      → KeepsLent (lengths_of (floor_of xs)).sheet (write_word xs ws (length old)) (write_stored xs ws old) old
  pub needed_lengths : (xs old : List ℕ)
      → KeepsLent (lengths_of (floor_of xs)).figures (needed_word xs (length old)) (needed_stored xs old) old
  pub search : (xs ws : List ℕ) (i : ℕ) (m old : List ℕ)
      → KeepsLent (lengths_of (floor_of xs)).route (search_word xs ws i m (length old)) (search_stored xs ws i m old) old
  pub plan : (xs ws old : List ℕ) → KeepsLent (lengths_of (floor_of xs)).answers (plan_word xs ws (length old)) (plan_stored xs ws old) old
  pub fresh : (xs ws old : List ℕ) → KeepsLent (lengths_of (floor_of xs)).state (fresh_word xs ws (length old)) (fresh_stored xs ws old) old
  pub step : (xs ws m : List ℕ) (x : ℕ) → KeepsLent (lengths_of (floor_of xs)).state (step_word xs ws m x) (step_stored xs ws m x) m
  pub run : (xs ws m ys : List ℕ) (b : ℕ) → KeepsLent (lengths_of (floor_of xs)).state (run_word xs ws m ys b) (run_stored xs ws m ys b) m
  pub trial_state : (xs ws : List ℕ) (order seed : ℕ) (m : List ℕ) (report : ℕ) → KeepsLent (lengths_of (floor_of xs)).state
      (trial_word xs ws order seed (length m) report) (trial_state_stored xs ws order seed m report) m
  pub trial_report : (xs ws : List ℕ) (order seed state : ℕ) (m : List ℕ) → KeepsLent (lengths_of (floor_of xs)).report
      (trial_word xs ws order seed state (length m)) (trial_report_stored xs ws order seed state m) m
  pub run_report : (xs ws : List ℕ) (rank : ℕ) (m : List ℕ) → KeepsLent (lengths_of (floor_of xs)).report
      (rank_word xs ws rank (length m)) (rank_stored xs ws rank m) m
  pub blockers : (xs ws : List ℕ) (carrier : ℕ) (m : List ℕ) → KeepsLent (lengths_of (floor_of xs)).answers
      (blockers_word xs ws carrier (length m)) (blockers_stored xs ws carrier m) m
  -- Text memory: the floor's figure for an accepted sheet, 16 bytes for a refused one (`needed_for`).
  pub print_routes : (text old : List ℕ) → KeepsLent (needed_for text) (print_word text (length old)) (print_stored text old) old
  -- A floor record is called too short exactly below its figure: as input before all else, as output of `kalomivund_read_sheet` where
  -- nothing else is wrong.
  pub record_short : (f : Floor) (xs : List ℕ) → (record_lent xs ≡ refused 9 0) ↔ (length xs < (lengths_of f).floor)
  pub read_record_short : (text : List ℕ) (lent walls : ℕ) → sheet_verdict text ≡ passed → (floor_at text).walls ≤ walls
      → (read_lent text lent walls ≡ refused 9 0) ↔ (lent < (lengths_of (floor_at text)).floor)
  -- Memory for a route is, on an accepted floor with views of the needed length.
  pub route_short : (f : Floor) (ws : List ℕ) (i : ℕ) (m : List ℕ) (lent : ℕ) → check_of f ws ≡ passed → (lengths_of f).answers ≤ length m
      → (search_lent f ws i m lent ≡ refusal 9 0) ↔ (lent < (lengths_of f).route)
  -- Memory for the figures is, of a floor within its limits.
  pub figures_short : (f : Floor) (lent : ℕ) → limits_of f ≡ passed → (needed_verdict f lent ≡ refused 9 0) ↔ (lent < (lengths_of f).figures)
  -- The words of the cases: 256 times the case, with the number taken from bit 16 on.
  pub kept_word_lem : word_of (of_reply (value (stepped kept))) ≡ 0
  pub sent_word_lem : word_of (of_reply (value (stepped sent))) ≡ 256
  pub delivered_word_lem : word_of (of_reply (value (stepped delivered))) ≡ 512
  pub silent_word : (t : ℕ) → t ≤ 65535 → word_of (of_reply (value (ran t silent))) ≡ 65536 * t
  pub spent_word : (t : ℕ) → t ≤ 65535 → word_of (of_reply (value (ran t spent))) ≡ 256 + 65536 * t
  pub ended_word : (t : ℕ) → t ≤ 65535 → word_of (of_reply (value (ran t ended))) ≡ 512 + 65536 * t
  pub trial_word_lem : (t : ℕ) → t ≤ 65535 → word_of (of_number (value t)) ≡ 65536 * t
  pub none_word_lem : word_of (of_search (value none)) ≡ 0
  pub route_word : (r : List ℕ) → word_of (of_search (value (route r))) ≡ 256
  -- The run of a rank: 256 times its steps, with the total from bit 16 on; a two-carrier floor's first run.
  pub run_word_lem : word_of (of_rank (value (record { runs = 3; steps = 4 }))) ≡ 256 * 4 + 65536 * 3
  pub free_word : word_of (of_conflict (value free)) ≡ 0
  pub same_cell_word : (t : ℕ) → t ≤ 63 → word_of (of_conflict (value (dated t same_cell))) ≡ 256 + 65536 * t
  pub change_word : (t : ℕ) → t ≤ 63 → word_of (of_conflict (value (dated t change_of_places))) ≡ 512 + 65536 * t
  pub following_word : (t : ℕ) → t ≤ 63 → word_of (of_conflict (value (dated t following))) ≡ 768 + 65536 * t
  -- A record that is a route with its arrival, none, not heard, and what is wrong: 256 times the cause, with the beat from bit 16 on.
  pub legal_word : (a : ℕ) → a ≤ 63 → word_of (of_record (value (a_route a))) ≡ 65536 * a
  pub legal_none_word : word_of (of_record (value a_none)) ≡ 256
  pub unheard_word : word_of (of_record (value not_heard)) ≡ 512
  pub wrong_word : (k t : ℕ) → k ≤ 8 → t ≤ 63 → word_of (of_record (value (wrong k t))) ≡ 256 * k + 65536 * t
  pub arrival_word_lem : (a : ℕ) → a ≤ 63 → word_of (of_number (value a)) ≡ 65536 * a
  -- Who shuts a carrier in: carriers 1 and 3 as a set, the bits 0 and 2 of the number from bit 16 on; walls or the horizon.
  pub set_word : word_of (of_number (value 5)) ≡ 65536 * 5
  pub cause_word : word_of (of_number (value 0)) ≡ 0
  -- Refusal 8, 0; 9, 0; 11, 0; 12, carrier 2; 13, carrier 3; 14, 0; 15, 0; 16, 0; 17, carrier 2; the ceiling of three carriers, 11;
  -- refusal 2, field 5, of none and of nine.
  pub early_word : word_of (refusal 8 0) ≡ 1 + 256 * 8
  pub short_word : word_of (refusal 9 0) ≡ 1 + 256 * 9
  pub order_word : word_of (refusal 11 0) ≡ 1 + 256 * 11
  pub empty_word : word_of (refusal 12 2) ≡ 1 + 256 * 12 + 65536 * 2
  pub full_word : word_of (refusal 13 3) ≡ 1 + 256 * 13 + 65536 * 3
  pub small_word : word_of (refusal 14 0) ≡ 1 + 256 * 14
  pub rank_word_lem : word_of (refusal 15 0) ≡ 1 + 256 * 15
  pub has_route_word : word_of (refusal 16 0) ≡ 1 + 256 * 16
  pub dock_twice_word : word_of (refusal 17 2) ≡ 1 + 256 * 17 + 65536 * 2
  pub ceiling_words : (ceiling_word 3 ≡ 65536 * 11) × (ceiling_word 0 ≡ 1 + 256 * 2 + 65536 * 5) × (ceiling_word 9 ≡ 1 + 256 * 2 + 65536 * 5)
