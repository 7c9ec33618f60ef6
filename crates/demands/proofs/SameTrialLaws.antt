-- Machines that differ only in the responses of carriers that are not there have the same trials: the same steps are open, so every order
-- takes the same one, and an open step is planned by a carrier that is there.
use Prim.Native.Nat.{ℕ, zero, suc, ◌<◌}
use mathlib.Core.Bool.{Bool, true, false}
use mathlib.Core.List.{List}
use lib.ListN.{length}
use mathlib.Core.Path.{◌≡◌, refl, sym, ◌∙◌, ap}
use Rattle.route.specs.Route.{Answer, View}
use Rattle.reference.specs.State.{Machine, State, fresh}
use Rattle.reference.specs.Step.{Step, is_open}
use Rattle.reference.specs.Ranking.{ranking, is_silent}
use Rattle.reference.specs.Take.{after_step}
use Rattle.reference.specs.Quiescent.{ceiling}
use Rattle.reference.proofs.RespondLaws.{open_same, after_same, answer_same, none_same}
use Rattle.orders.specs.Orders.{Order, first, round, drawn, places, step_at, open_at, passing, open_places, turn, chosen, start_memory}
use Rattle.orders.specs.Orders.{remembered}
use Rattle.orders.specs.Trial.{TrialResult, next_step, entry_of, reported, try_from, trial}
use Rattle.orders.proofs.RuleLaws.{some_place, chosen_item}
use Rattle.orders.proofs.TrialLaws.{try_silent, try_step}

module _ (n d k : ℕ) (φ ψ : ℕ → List View → Answer) (agree : (i : ℕ) (vs : List View) → i < n → length vs ≡ i → φ i vs ≡ ψ i vs) where
  abbrev M : Machine
  M = record { carriers = n; depth = d; needed = k; respond = φ }

  abbrev N : Machine
  N = record { carriers = n; depth = d; needed = k; respond = ψ }

  pub silent_same : (s : State) → is_silent M s ≡ is_silent N s
  unfolding is_silent
  silent_same s = none_same n d k φ ψ agree s (ranking n)

  passing_same : (s : State) (kept : ℕ) → passing (open_at M s) kept ≡ passing (open_at N s) kept
  unfolding passing open_at
  passing_same s zero = refl
  passing_same s (suc kept) = rw (passing_same s kept, open_same n d k φ ψ agree s (step_at n kept))

  turn_same : (o : Order) (s : State) (kept : ℕ) → turn o M s kept ≡ turn o N s kept
  unfolding turn
  turn_same first s kept = refl
  turn_same round s kept = rw (passing_same s kept)
  turn_same drawn s kept = refl

  chosen_same : (o : Order) (s : State) (kept : ℕ) → chosen o M s kept ≡ chosen o N s kept
  unfolding chosen open_places
  chosen_same o s kept = rw (passing_same s (places n), turn_same o s kept)

  next_same : (o : Order) (s : State) (kept : ℕ) → next_step o M s kept ≡ next_step o N s kept
  unfolding next_step
  next_same o s kept = ap (step_at n) (chosen_same o s kept)

  pub entry_same : (s : State) (x : Step) → is_open M s x ≡ true → entry_of M s x ≡ entry_of N s x
  unfolding entry_of
  entry_same s x e = rw (answer_same n d k φ ψ agree s x e)

  -- The step that an order takes is open where the machine is not silent.
  next_open : (o : Order) (s : State) (kept : ℕ) → is_silent M s ≡ false → is_open M s (next_step o M s kept) ≡ true
  unfolding next_step open_at
  next_open o s kept e = (chosen_item M s o kept (some_place M s e)).passes

  try_same : (o : Order) (kept : ℕ) (s : State) (b : ℕ) → try_from o M kept s b ≡ try_from o N kept s b
  unfolding try_from
  try_same o kept s zero = refl
  try_same o kept s (suc b) = go (is_silent M s) refl (λ y z. try_same o y z b)
    where
      go : (x' : Bool) → is_silent M s ≡ x' → ((y : ℕ) (z : State) → try_from o M y z b ≡ try_from o N y z b)
          → try_from o M kept s (suc b) ≡ try_from o N kept s (suc b)
      go true e rest = try_silent o M kept s b e ∙ sym (try_silent o N kept s b (sym (silent_same s) ∙ e))
      go false e rest =
          let opened = next_open o s kept e in
          let x = next_step o M s kept in
          let y = remembered o kept (chosen o M s kept) in
          try_step o M kept s b e
          ∙ ap (reported (entry_of M s x)) (rest y (after_step M s x))
          ∙ ap (λ z. reported (entry_of M s x) (try_from o N y z b)) (after_same n d k φ ψ agree s x opened)
          ∙ ap (λ z. reported z (try_from o N y (after_step N s x) b)) (entry_same s x opened)
          ∙ ap (λ z. reported (entry_of N s z) (try_from o N y (after_step N s z) b)) (next_same o s kept)
          ∙ ap (λ z. reported (entry_of N s (next_step o N s kept))
          (try_from o N (remembered o kept z) (after_step N s (next_step o N s kept)) b))
          (chosen_same o s kept)
          ∙ sym (try_step o N kept s b (sym (silent_same s) ∙ e))

  pub trial_same : (o : Order) (seed : ℕ) → trial o M seed ≡ trial o N seed
  unfolding trial
  trial_same o seed = try_same o (start_memory o seed) fresh (ceiling n)
