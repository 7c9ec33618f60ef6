-- The trial's loop: the memory is that of the state so far, the report has the lines so far, and the rest of the trial goes on from there.
use Rattle.std.proofs.Common.{◌≡◌, ℕ, zero, suc, ◌+◌, ◌-◌, ◌*◌, ◌<◌, ◌≤◌, true, List, [], ◌∷◌, ◌++◌, length, drop, sym, refl, ap, ◌∙◌, subst, append_assoc, append-nil, arith, length-append}
use Rattle.laws.specs.Verdict.{passed}
use Rattle.laws.specs.Memory.{put}
use Rattle.laws.proofs.PutLaws.{put_none, put_next, put_length}
use Rattle.floor.specs.declared.Floor.{Floor}
use Rattle.floor.specs.Checks.{check_of}
use Rattle.records.proofs.RecordLaws.{Whole}
use Rattle.reference.specs.State.{Machine, State, fresh}
use Rattle.reference.specs.Step.{Step, is_open}
use Rattle.reference.specs.Take.{after_step, StepAnswer, step_answer}
use Rattle.reference.specs.Ranking.{is_silent}
use Rattle.reference.specs.Quiescent.{ceiling}
use Rattle.reference.specs.Bounds.{InRange, Throughout}
use Rattle.reference.proofs.BoundLaws.{step_in_range}
use Rattle.reference.proofs.ThroughLaws.{step_throughout, throughout_more}
use Rattle.encoding.specs.Places.{state_size}
use Rattle.encoding.specs.Encode.{encode}
use Rattle.encoding.specs.Ranges.{Sound, WithinRanges}
use Rattle.encoding.specs.Calls.{machine_of}
use Rattle.encoding.specs.InnerSteps.{after_in, step_answer_in}
use Rattle.encoding.proofs.RecordLaws.{sound_whole}
use Rattle.encoding.proofs.ExactLaws.{fresh_fits}
use Rattle.encoding.proofs.FloorLaws.{respond_sound, storable}
use Rattle.encoding.proofs.StepLaws.{after_same, said_same}
use Rattle.orders.specs.Orders.{Order, places, step_at, open_at, passing, chosen, start_memory, remembered}
use Rattle.orders.specs.Trial.{Entry, TrialResult, next_step, entry_of, reported, try_from, trial}
use Rattle.orders.proofs.RuleLaws.{Memory, Takes, no_place, place_not_silent, chosen_takes}
use Rattle.orders.proofs.TrialLaws.{start_memory_lem, try_silent, try_step}
use Rattle.trial.specs.Report.{number_of, answer_number, report_numbers, report_size}
use Rattle.trial.specs.Inner.{open_count, chosen_in, Advanced}
use Rattle.trial.proofs.ReportLaws.{numbers_length, numbers_more}
use Rattle.trial.proofs.ShownLaws.{count_same, chosen_same}

-- An open step on the memory of a state within the ranges.
module _ (f : Floor) (ws : List ℕ) (ok : check_of f ws ≡ passed) (s : State) (fits : WithinRanges f s) where
  abbrev M : Machine
  M = machine_of f ws

  in_range : InRange M s
  unfolding machine_of
  in_range = record { channels = fits.channels; counted = fits.counted }

  whole : Throughout f.carriers Whole s
  whole = throughout_more f.carriers (sound_whole f) s fits.parts

  pub step_fits : (x : Step) → is_open M s x ≡ true → WithinRanges f (after_step M s x)
  unfolding machine_of
  step_fits x e =
      let range = step_in_range M s in_range x e in
      record {
        counted = range.counted;
        channels = range.channels;
        parts = step_throughout f.carriers (Sound f) M (respond_sound f ws ok) s fits.parts x;
      }

  pub step_stores : (rest : List ℕ) (x : Step) → is_open M s x ≡ true →
      after_in M (encode f.carriers s ++ rest) x ≡ encode f.carriers (after_step M s x) ++ rest
  unfolding machine_of
  step_stores rest x e = after_same M (storable f ws ok) s in_range whole rest x e

  pub step_says : (rest : List ℕ) (x : Step) → is_open M s x ≡ true → step_answer_in M (encode f.carriers s ++ rest) x ≡ step_answer M s x
  unfolding machine_of
  step_says rest x e = said_same M (storable f ws ok) s in_range whole rest x e

-- A trial that stops is the state that it has.
try_stopped : (o : Order) (M : Machine) (kept : ℕ) (s : State) (b : ℕ) → is_silent M s ≡ true →
    try_from o M kept s b ≡ record { report = []; state = s }
unfolding try_from
try_stopped o M kept s zero e = refl
try_stopped o M kept s (suc b) e = try_silent o M kept s b e

module _ (f : Floor) (ws : List ℕ) (o : Order) (seed : ℕ) (m₀ report₀ : List ℕ) where
  -- The trial after t steps, its memory m, its report and what its order remembers.
  pub record Playing (m report : List ℕ) (kept t : ℕ) : Type 0 where
    pub state : State
    pub entries : List Entry
    pub shows : m ≡ encode f.carriers state ++ drop (state_size f.carriers) m₀
    pub long : length m ≡ length m₀
    pub wide : length report ≡ length report₀
    pub fits : WithinRanges f state
    pub keeps : Memory o (machine_of f ws) kept
    pub number : t ≡ length entries
    pub stored : report ≡ put report₀ 0 (report_numbers entries)
    pub told : (trial o (machine_of f ws) seed).report ≡
        entries ++ (try_from o (machine_of f ws) kept state (ceiling f.carriers - t)).report
    pub leads : (trial o (machine_of f ws) seed).state ≡ (try_from o (machine_of f ws) kept state (ceiling f.carriers - t)).state

  pub playing_start : m₀ ≡ encode f.carriers fresh ++ drop (state_size f.carriers) m₀ → Playing m₀ report₀ (start_memory o seed) 0
  unfolding trial machine_of report_numbers
  playing_start e =
      record {
        state = fresh;
        entries = [];
        shows = e;
        long = refl;
        wide = refl;
        fits = fresh_fits f;
        keeps = start_memory_lem o (machine_of f ws) seed;
        number = refl;
        stored = put_none report₀ 0;
        told = ap (λ (x : TrialResult). x.report) all;
        leads = ap (λ (x : TrialResult). x.state) all;
      }
    where
      all : try_from o (machine_of f ws) (start_memory o seed) fresh (ceiling f.carriers) ≡
          try_from o (machine_of f ws) (start_memory o seed) fresh (ceiling f.carriers - 0)
      all = ap (try_from o (machine_of f ws) (start_memory o seed) fresh) (omega arith)

  module _ (ok : check_of f ws ≡ passed) {m report : List ℕ} {kept t : ℕ} (p : Playing m report kept t) where
    abbrev N : Machine
    N = machine_of f ws

    abbrev s : State
    s = p.state

    -- How many places are open, as the memory shows it.
    shown_count : open_count f m (places f.carriers) ≡ length (passing (open_at N s) (places N.carriers))
    unfolding machine_of
    shown_count =
        ap (λ (xs : List ℕ). open_count f xs (places f.carriers)) p.shows
        ∙ count_same f ws s (drop (state_size f.carriers) m₀) (places f.carriers)

    -- What the order takes, and that it is open.
    taken_place : chosen_in o f m kept ≡ chosen o N s kept
    taken_place =
        ap (λ (xs : List ℕ). chosen_in o f xs kept) p.shows ∙ chosen_same f ws s (drop (state_size f.carriers) m₀) o kept

    takes : 0 < open_count f m (places f.carriers) → Takes o N s kept (chosen o N s kept)
    takes l = chosen_takes N s o kept p.keeps (rw (← shown_count) l)

    -- One more step.
    module _ (some : 0 < open_count f m (places f.carriers)) (less : t < ceiling f.carriers)
        (enough : report_size f.carriers ≤ length report₀)
        {next : ℕ} {m' report' : List ℕ} (same-long : length m' ≡ length m) (a : Advanced o f ws m report kept t next m' report') where
      abbrev x : Step
      x = next_step o N s kept

      abbrev line : Entry
      line = entry_of N s x

      x_open : is_open N s x ≡ true
      unfolding next_step open_at
      x_open = (takes some).opened

      x_is : step_at f.carriers (chosen_in o f m kept) ≡ x
      unfolding next_step machine_of
      x_is = ap (step_at f.carriers) taken_place

      goes_on : try_from o N kept s (ceiling f.carriers - t) ≡
          reported line (try_from o N (remembered o kept (chosen o N s kept)) (after_step N s x) (ceiling f.carriers - (t + 1)))
      goes_on =
          let less_one : ceiling f.carriers - t ≡ suc (ceiling f.carriers - (t + 1)) = omega arith in
          rw less_one (try_step o N kept s (ceiling f.carriers - (t + 1)) (place_not_silent N s (rw (← shown_count) some)))

      says : step_answer_in N m x ≡ step_answer N s x
      says =
          ap (λ (xs : List ℕ). step_answer_in N xs x) p.shows
          ∙ step_says f ws ok s p.fits (drop (state_size f.carriers) m₀) x x_open

      stores : m' ≡ encode f.carriers (after_step N s x) ++ drop (state_size f.carriers) m₀
      stores =
          a.stores ∙ ap (after_in N m) x_is
          ∙ ap (λ (xs : List ℕ). after_in N xs x) p.shows
          ∙ step_stores f ws ok s p.fits (drop (state_size f.carriers) m₀) x x_open

      numbers : report' ≡ put report (2 * t) (number_of line.taken ∷ (answer_number line.answer ∷ []))
      unfolding entry_of
      numbers =
          a.reports
          ∙ ap (λ (y : Step). put report (2 * t) (number_of y ∷ (answer_number (step_answer_in N m y) ∷ []))) x_is
          ∙ ap (λ (y : StepAnswer). put report (2 * t) (number_of x ∷ (answer_number y ∷ []))) says

      -- The report keeps its length, and has one line more.
      size : length (report_numbers p.entries) ≡ 2 * t
      size = numbers_length p.entries ∙ ap (λ (k : ℕ). 2 * k) (sym p.number)

      stored_more : report' ≡ put report₀ 0 (report_numbers (p.entries ++ (line ∷ [])))
      unfolding report_size
      stored_more =
          put_next report₀ report report' (report_numbers p.entries)
          (number_of line.taken ∷ (answer_number line.answer ∷ [])) 0 (2 * t)
          p.stored numbers (omega (arith, size)) (omega (arith, enough, less))
          ∙ ap (put report₀ 0) (sym (numbers_more p.entries line))

      wide_more : length report' ≡ length report₀
      unfolding report_size
      wide_more =
          ap length numbers
          ∙ put_length report (number_of line.taken ∷ (answer_number line.answer ∷ [])) (2 * t) (omega (arith, enough, less, p.wide))
          ∙ p.wide

      -- What is left of the trial, from what the order remembers now.
      left : TrialResult
      left = try_from o N next (after_step N s x) (ceiling f.carriers - (t + 1))

      goes_there : try_from o N kept s (ceiling f.carriers - t) ≡ reported line left
      unfolding left
      goes_there =
          goes_on
          ∙ ap (λ (k : ℕ). reported line (try_from o N k (after_step N s x) (ceiling f.carriers - (t + 1))))
          (sym (a.remembers ∙ ap (remembered o kept) taken_place))

      told_more : (trial o N seed).report ≡ (p.entries ++ (line ∷ [])) ++ left.report
      unfolding reported
      told_more =
          p.told ∙ ap (λ (x : TrialResult). p.entries ++ x.report) goes_there
          ∙ sym (append_assoc p.entries (line ∷ []) left.report)

      leads_more : (trial o N seed).state ≡ left.state
      unfolding reported
      leads_more = p.leads ∙ ap (λ (x : TrialResult). x.state) goes_there

      pub playing_more : Playing m' report' next (t + 1)
      unfolding left
      playing_more =
          record {
            state = after_step N s x;
            entries = p.entries ++ (line ∷ []);
            shows = stores;
            long = same-long ∙ p.long;
            wide = wide_more;
            fits = step_fits f ws ok s p.fits x x_open;
            keeps = subst (Memory o N) (sym (a.remembers ∙ ap (remembered o kept) taken_place)) (takes some).next;
            number = omega (arith, p.number, length-append p.entries (line ∷ []));
            stored = stored_more;
            told = told_more;
            leads = leads_more;
          }

    -- The trial that has stopped: its number of steps, its memory, its report.
    pub stopped : try_from o N kept s (ceiling f.carriers - t) ≡ record { report = []; state = s } →
        (t ≡ length (trial o N seed).report) ×
        ((m ≡ encode f.carriers (trial o N seed).state ++ drop (state_size f.carriers) m₀) ×
        (report ≡ put report₀ 0 (report_numbers (trial o N seed).report)))
    stopped e =
        let all : (trial o N seed).report ≡ p.entries =
        p.told ∙ ap (λ (x : TrialResult). p.entries ++ x.report) e ∙ append-nil p.entries in
        let last : (trial o N seed).state ≡ s = p.leads ∙ ap (λ (x : TrialResult). x.state) e in (
          p.number ∙ ap length (sym all),
          (
            p.shows ∙ ap (λ (z : State). encode f.carriers z ++ drop (state_size f.carriers) m₀) (sym last),
            p.stored ∙ ap (λ (xs : List Entry). put report₀ 0 (report_numbers xs)) (sym all),
          ),
        )

    -- It stops where no place is open, and after the ceiling's number of steps.
    pub stops_silent : open_count f m (places f.carriers) ≡ 0 →
        try_from o N kept s (ceiling f.carriers - t) ≡ record { report = []; state = s }
    stops_silent e = try_stopped o N kept s (ceiling f.carriers - t) (no_place N s (sym shown_count ∙ e))

    pub stops_spent : ceiling f.carriers ≤ t → try_from o N kept s (ceiling f.carriers - t) ≡ record { report = []; state = s }
    unfolding try_from
    stops_spent l = let none : ceiling f.carriers - t ≡ 0 = omega arith in ap (try_from o N kept s) none
