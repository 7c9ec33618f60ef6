-- What an order takes, as the memory of a state shows it, is what it takes in that state.
use Rattle.std.proofs.Common.{◌≡◌, ℕ, zero, suc, ◌%◌, ◌<◌, Bool, true, List, ◌++◌, length, refl, ap, ◌∙◌, mod-lt}
use Rattle.floor.specs.declared.Floor.{Floor}
use Rattle.reference.specs.State.{Machine, State}
use Rattle.encoding.specs.Encode.{encode}
use Rattle.encoding.specs.Calls.{machine_of}
use Rattle.encoding.specs.InnerSteps.{open_in}
use Rattle.encoding.proofs.OpenLaws.{open_same}
use Rattle.steps.specs.Inner.{bare}
use Rattle.steps.proofs.OpenLaws.{open_of}
use Rattle.orders.specs.Orders.{Order, first, round, drawn, places, step_at, open_at, passing, open_places, turn, chosen}
use Rattle.orders.proofs.PassingLaws.{passing_item}
use Rattle.trial.specs.Inner.{opens_in, open_count, turn_in, chosen_in}

-- Two tests that agree pass the same places.
passing_same : (φ ψ : ℕ → Bool) → ((i : ℕ) → φ i ≡ ψ i) → (k : ℕ) → passing φ k ≡ passing ψ k
unfolding passing
passing_same φ ψ h zero = refl
passing_same φ ψ h (suc k) = rw (passing_same φ ψ h k, h k)

-- The place that an order takes is open.
pub chosen_opens : (o : Order) (f : Floor) (m : List ℕ) (kept : ℕ) → 0 < open_count f m (places f.carriers) →
    open_in (bare f) m (step_at f.carriers (chosen_in o f m kept)) ≡ true
unfolding chosen_in open_count opens_in
chosen_opens o f m kept l =
    (passing_item (opens_in f m) (places f.carriers) (turn_in o f m kept % open_count f m (places f.carriers))
    (mod-lt (turn_in o f m kept) l)).passes

module _ (f : Floor) (ws : List ℕ) (s : State) (rest : List ℕ) where
  abbrev M : Machine
  M = machine_of f ws

  abbrev m : List ℕ
  m = encode f.carriers s ++ rest

  opens_same : (p : ℕ) → opens_in f m p ≡ open_at M s p
  unfolding opens_in open_at machine_of
  opens_same p = open_of f ws m (step_at f.carriers p) ∙ open_same M s rest (step_at f.carriers p)

  listed_same : (k : ℕ) → passing (opens_in f m) k ≡ passing (open_at M s) k
  listed_same = passing_same (opens_in f m) (open_at M s) opens_same

  pub count_same : (k : ℕ) → open_count f m k ≡ length (passing (open_at M s) k)
  unfolding open_count
  count_same k = ap length (listed_same k)

  turn_same : (o : Order) (kept : ℕ) → turn_in o f m kept ≡ turn o M s kept
  unfolding turn_in turn
  turn_same first kept = refl
  turn_same round kept = count_same kept
  turn_same drawn kept = refl

  pub chosen_same : (o : Order) (kept : ℕ) → chosen_in o f m kept ≡ chosen o M s kept
  unfolding chosen_in chosen open_places machine_of
  chosen_same o kept = rw (listed_same (places f.carriers), turn_same o kept, count_same (places f.carriers))
