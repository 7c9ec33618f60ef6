-- The claims, proved.
use Prim.Native.Nat.{ℕ, zero, suc, ◌+◌, ◌*◌, ◌/◌, ◌≤◌, ◌<◌}
use native.Mathlib.Omega.{arith}
use native.Mathlib.Nat.{mod-lt, div-lt_iff_lt-mul}
use mathlib.Core.Bool.{true}
use mathlib.Core.List.{List, ◌++◌}
use mathlib.Core.Path.{◌≡◌, refl, sym, ◌∙◌, ap}
use lib.ListN.{length, take, length-append}
use lib.Seq.{take_all}
use Rattle.route.specs.Route.{Answer, View}
use Rattle.route.specs.Sequential.{sequential}
use Rattle.reference.specs.Ranges.{below}
use Rattle.reference.specs.State.{Machine, State, fresh}
use Rattle.reference.specs.Step.{Step}
use Rattle.reference.specs.History.{after_steps}
use Rattle.reference.specs.Calls.{after}
use Rattle.reference.specs.Quiescent.{idle, quiescent}
use Rattle.reference.proofs.Theorems.{theorems as reference-theorems, silent_idle}
use Rattle.orders.specs.Generator.{next_number, drawn_by}
use Rattle.orders.specs.Orders.{Order, round, start_memory}
use Rattle.orders.specs.Trial.{Entry, trial, steps_in}
use Rattle.orders.specs.Rules.{PassedOver}
use Rattle.orders.specs.Claims.{calls_of, Claims}
use Rattle.orders.proofs.PlaceLaws.{places_half, ranking_lists}
use Rattle.orders.proofs.TrialLaws.{trial_holds, ends_silent, start_memory_lem}
use Rattle.orders.proofs.RuleLaws.{Memory, open_listed, open_rising}
use Rattle.orders.proofs.CallLaws.{calls_reply, calls_lead}
use Rattle.orders.proofs.RoundLaws.{round_fair}

sequential_length : (respond : ℕ → List View → Answer) (k : ℕ) → length (sequential respond k) ≡ k
unfolding sequential
sequential_length respond zero = refl
sequential_length respond (suc k) = rw (length-append, sequential_length respond k) (omega arith)

module _ (o : Order) (M : Machine) (seed : ℕ) where
  abbrev report : List Entry
  report = (trial o M seed).report

  state_same : (lent : ℕ) → M.needed ≤ lent → after M fresh (calls_of lent report) ≡ (trial o M seed).state
  state_same lent l =
      let h = trial_holds o M seed in calls_lead M lent l o (start_memory o seed) fresh report h.by_rule ∙ sym h.leads

  -- All are quiescent where the trial ends, and the first n of n answers are all of them.
  sequential_answers : 1 ≤ M.depth → below M.carriers (trial o M seed).state.answer ≡ sequential M.respond M.carriers
  unfolding quiescent
  sequential_answers d =
      let z = (trial o M seed).state in
      let same = state_same M.needed (omega arith) in
      let quiescent : idle M.carriers (after M fresh (calls_of M.needed report)) ≡ true =
      ap (idle M.carriers) same ∙ sym (silent_idle M z d) ∙ ends_silent o M seed
      in
      let answers =
      reference-theorems.calls.quiescent_answers M (calls_of M.needed report) M.carriers (omega arith) quiescent
      in
      let seen : below M.carriers z.answer ≡ take M.carriers (sequential M.respond M.carriers) =
      ap (λ (s : State). below M.carriers s.answer) (sym same) ∙ answers
      in
      seen ∙ take_all M.carriers (sequential M.respond M.carriers) (omega (arith, sequential_length M.respond M.carriers))

number_fits : (x : ℕ) → next_number x < 4294967296
unfolding next_number
number_fits x = mod-lt (x * 1664525 + 1013904223) (omega arith)

drawn_fits : (x : ℕ) → drawn_by x < 65536
unfolding drawn_by
drawn_fits x = (div-lt_iff_lt-mul {k = 65536} {x = next_number x} {y = 65536} (omega arith)).1 (number_fits x)

within_a_round : (M : Machine) (seed : ℕ) (x : Step) (xs ys zs : List Step) → 1 ≤ M.carriers →
    steps_in (trial round M seed).report ≡ xs ++ (ys ++ zs) → PassedOver M x (after_steps M fresh xs) ys →
    length ys < M.carriers * (M.carriers + 1) / 2
unfolding Memory
within_a_round M seed x xs ys zs n e over =
    rw (← places_half M.carriers)
    (round_fair M (start_memory round seed) fresh (trial round M seed).report x xs ys zs n (start_memory_lem round M seed)
    (trial_holds round M seed).by_rule e over)

pub theorems : Claims
theorems =
    record {
      ranking_length = places_half;
      ranking_lists = ranking_lists;
      open_listed = open_listed;
      open_rising = open_rising;
      number_fits = number_fits;
      drawn_fits = drawn_fits;
      by_rule = λ o M seed. (trial_holds o M seed).by_rule;
      leads = λ o M seed. (trial_holds o M seed).leads;
      ends_silent = ends_silent;
      within_ceiling = λ o M seed. (trial_holds o M seed).within;
      replies_same = λ o M seed lent l.
          calls_reply M lent l o (start_memory o seed) fresh (trial o M seed).report (trial_holds o M seed).by_rule;
      state_same = state_same;
      sequential_answers = sequential_answers;
      within_a_round = within_a_round;
    }
