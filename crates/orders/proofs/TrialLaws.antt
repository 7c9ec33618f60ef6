-- A trial: it goes by the order's rule, leads to its state, and ends silent, since every step lowers the potential of the state.
use Prim.Native.Nat.{ℕ, zero, suc, ◌≤◌}
use native.Mathlib.Omega.{arith}
use mathlib.Core.Bool.{Bool, true, false}
use mathlib.Core.List.{[]}
use mathlib.Core.Logic.{◌⊎◌, inl, inr, ⊎_elim}
use mathlib.Core.Path.{◌≡◌, refl, ap}
use lib.ListN.{length}
use Rattle.laws.proofs.Tests.{true_or_false}
use Rattle.reference.specs.State.{Machine, State, fresh}
use Rattle.reference.specs.Take.{after_step}
use Rattle.reference.specs.Ranking.{is_silent}
use Rattle.reference.specs.History.{Reachable, stay, next, after_steps}
use Rattle.reference.specs.Quiescent.{ceiling}
use Rattle.reference.proofs.RankingLaws.{some_open}
use Rattle.reference.proofs.Potential.{fresh_potential}
use Rattle.reference.proofs.CeilingLaws.{step_lowers, reaches_lowers}
use Rattle.orders.specs.Orders.{Order, open_at, chosen, start_memory, remembered, first, round, drawn}
use Rattle.orders.specs.Trial.{TrialResult, next_step, entry_of, reported, try_from, trial, steps_in}
use Rattle.orders.specs.Rules.{FollowsOrder}
use Rattle.orders.proofs.RuleLaws.{Memory, Takes, some_place, chosen_takes}

-- A trial that takes no step.
abbrev stopped : State → TrialResult
stopped s = record { report = []; state = s }

-- At its start an order remembers what it may.
pub start_memory_lem : (o : Order) (M : Machine) (seed : ℕ) → Memory o M (start_memory o seed)
unfolding Memory start_memory
start_memory_lem first M seed = tt
start_memory_lem round M seed = omega arith
start_memory_lem drawn M seed = tt

module _ (o : Order) (M : Machine) where
  pub try_silent : (kept : ℕ) (s : State) (b : ℕ) → is_silent M s ≡ true → try_from o M kept s (suc b) ≡ stopped s
  unfolding try_from
  try_silent kept s b e = rw (e, try_from)

  pub try_step : (kept : ℕ) (s : State) (b : ℕ) → is_silent M s ≡ false → try_from o M kept s (suc b) ≡
      reported (entry_of M s (next_step o M s kept))
      (try_from o M (remembered o kept (chosen o M s kept)) (after_step M s (next_step o M s kept)) b)
  unfolding try_from
  try_step kept s b e = rw (e, try_from)

  -- What holds of a trial that stops, and that one more step in front keeps, holds of every trial.
  module _ (P : ℕ → State → ℕ → TrialResult → Type 0) (spent : (kept : ℕ) (s : State) → P kept s 0 (stopped s))
      (silent : (kept : ℕ) (s : State) (b : ℕ) → is_silent M s ≡ true → P kept s (suc b) (stopped s))
      (more : (kept : ℕ) (s : State) (b : ℕ) (x : TrialResult) → Takes o M s kept (chosen o M s kept) →
      P (remembered o kept (chosen o M s kept)) (after_step M s (next_step o M s kept)) b x →
      P kept s (suc b) (reported (entry_of M s (next_step o M s kept)) x)) where
    pub try_induction : (kept : ℕ) (s : State) (b : ℕ) → Memory o M kept → P kept s b (try_from o M kept s b)
    unfolding try_from
    try_induction kept s zero h = spent kept s
    try_induction kept s (suc b) h =
        go (is_silent M s) refl
        (λ (k : Memory o M (remembered o kept (chosen o M s kept))).
        try_induction (remembered o kept (chosen o M s kept)) (after_step M s (next_step o M s kept)) b k)
      where
        go : (x : Bool) → is_silent M s ≡ x → (Memory o M (remembered o kept (chosen o M s kept)) →
            P (remembered o kept (chosen o M s kept)) (after_step M s (next_step o M s kept)) b
            (try_from o M (remembered o kept (chosen o M s kept))
            (after_step M s (next_step o M s kept)) b)) → P kept s (suc b) (try_from o M kept s (suc b))
        go true e on = rw (try_silent kept s b e) (silent kept s b e)
        go false e on =
            let r = chosen_takes M s o kept h (some_place M s e) in rw (try_step kept s b e) (more kept s b _ r (on r.next))

  -- What holds of a trial of at most b steps.
  pub record TrialHolds (kept : ℕ) (s : State) (b : ℕ) (x : TrialResult) : Type 0 where
    pub by_rule : FollowsOrder o M kept s x.report
    pub leads : x.state ≡ after_steps M s (steps_in x.report)
    pub within : length x.report ≤ b
    pub reaches : Reachable M s x.state (length x.report)
    pub stops : (length x.report ≡ b) ⊎ (is_silent M x.state ≡ true)

  pub try_holds : (kept : ℕ) (s : State) (b : ℕ) → Memory o M kept → TrialHolds kept s b (try_from o M kept s b)
  unfolding FollowsOrder after_steps steps_in reported entry_of next_step open_at
  try_holds =
      try_induction TrialHolds (λ kept s. record { by_rule = tt; leads = refl; within = omega arith; reaches = stay; stops = inl refl })
      (λ kept s b e. record { by_rule = tt; leads = refl; within = omega arith; reaches = stay; stops = inr e }) more
    where
      stops_more : (b k : ℕ) (x : Bool) → (k ≡ b) ⊎ (x ≡ true) → (suc k ≡ suc b) ⊎ (x ≡ true)
      stops_more b k x (inl e) = inl (ap suc e)
      stops_more b k x (inr e) = inr e

      more : (kept : ℕ) (s : State) (b : ℕ) (x : TrialResult) → Takes o M s kept (chosen o M s kept) →
          TrialHolds (remembered o kept (chosen o M s kept)) (after_step M s (next_step o M s kept)) b x →
          TrialHolds kept s (suc b) (reported (entry_of M s (next_step o M s kept)) x)
      more kept s b x r h =
          record {
            by_rule = (
              chosen o M s kept,
              record { listed = r.listed; step = refl; is_open = r.opened; rule = r.rule; answer = refl },
              h.by_rule,
            );
            leads = h.leads;
            within = omega (arith, h.within);
            reaches = next (next_step o M s kept) r.opened h.reaches;
            stops = stops_more b (length x.report) (is_silent M x.state) h.stops;
          }

  pub trial_holds : (seed : ℕ) → TrialHolds (start_memory o seed) fresh (ceiling M.carriers) (trial o M seed)
  unfolding trial
  trial_holds seed = try_holds (start_memory o seed) fresh (ceiling M.carriers) (start_memory_lem o M seed)

  -- A state that is not silent after the ceiling's number of steps would have one step too many.
  pub ends_silent : (seed : ℕ) → is_silent M (trial o M seed).state ≡ true
  unfolding ceiling
  ends_silent seed = ⊎_elim full (λ (e : is_silent M z ≡ true). e) h.stops
    where
      z : State
      z = (trial o M seed).state

      h : TrialHolds (start_memory o seed) fresh (ceiling M.carriers) (trial o M seed)
      h = trial_holds seed

      full : length (trial o M seed).report ≡ ceiling M.carriers → is_silent M z ≡ true
      full q =
          ⊎_elim (λ (e : is_silent M z ≡ true). e)
          (λ (e : is_silent M z ≡ false).
          let x = some_open M z e in
          absurd (omega (arith, q, step_lowers M z x.0 x.1, reaches_lowers M h.reaches, fresh_potential M.carriers)))
          (true_or_false (is_silent M z))
