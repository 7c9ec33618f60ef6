-- Each order takes what its rule says. The open places before place p number as many as those before it in the list of open places; so
-- the first of the list has none before it, and the one behind those before c is the first from c on.
use Prim.Native.Nat.{ℕ, ◌%◌, ◌≤◌, ◌<◌}
use native.Mathlib.Omega.{arith}
use native.Mathlib.Nat.{eq-or-lt_of_le, mod-lt, mod-eq_of_lt, mod_self}
use mathlib.Core.Bool.{Bool, true, false}
use mathlib.Core.Logic.{◌↔◌, ⊎_elim}
use mathlib.Core.Path.{◌≡◌, refl}
use lib.ListN.{length, get_or}
use Rattle.laws.specs.Verdict.{passes}
use Rattle.laws.proofs.Tests.{and_fst, lt_or_le, true_false_absurd, true_or_false}
use Rattle.reference.specs.State.{Machine, State}
use Rattle.reference.specs.Step.{Step, is_there, waits_for, is_open}
use Rattle.reference.specs.Ranking.{is_silent}
use Rattle.reference.proofs.RankingLaws.{silent_shut, some_open}
use Rattle.orders.specs.Generator.{drawn_by}
use Rattle.orders.specs.Orders.{Order, first, round, drawn, places, step_at, open_at, passing, open_places, turn, chosen, remembered}
use Rattle.orders.specs.Rules.{FirstRound, onward, around, MayTake}
use Rattle.orders.proofs.PlaceLaws.{there_place}
use Rattle.orders.proofs.PassingLaws.{count, count_none, count_mono, passing_at, ItemAt, passing_item, none_between}

-- What an order may remember: order 2 a place, or the end of the ranking.
unfoldable pub Memory : Order → Machine → ℕ → Type 0
Memory first M c = Unit {0}
Memory round M c = c ≤ places M.carriers
Memory drawn M c = Unit {0}

-- An order that remembers kept takes place p, which is open, by its rule.
pub record Takes (o : Order) (M : Machine) (s : State) (kept p : ℕ) : Type 0 where
  pub listed : p < places M.carriers
  pub opened : open_at M s p ≡ true
  pub rule : MayTake o M s kept p
  pub next : Memory o M (remembered o kept p)

module _ (M : Machine) (s : State) where
  abbrev n : ℕ
  n = places M.carriers

  abbrev opens : ℕ → Bool
  opens = open_at M s

  -- An open step has a place.
  pub open_place : (x : Step) → is_open M s x ≡ true → (p : ℕ) × (p < n) × (step_at M.carriers p ≡ x) × (opens p ≡ true)
  unfolding open_at is_open
  open_place x e =
      let r = there_place M x (and_fst (is_there M x) (passes (waits_for M s x)) e) in (r.0, r.1, r.2, rw r.2 e)

  -- Some place is open exactly if the machine is not silent.
  pub some_place : is_silent M s ≡ false → 0 < count opens n
  some_place e =
      let x = some_open M s e in
      let r = open_place x.0 x.1 in
      omega (arith, (passing_at opens n r.0 r.1 r.3).0)

  pub no_place : count opens n ≡ 0 → is_silent M s ≡ true
  no_place e =
      ⊎_elim (λ (h : is_silent M s ≡ true). h) (λ (h : is_silent M s ≡ false). absurd (omega (arith, some_place h)))
      (true_or_false (is_silent M s))

  pub place_not_silent : 0 < count opens n → is_silent M s ≡ false
  unfolding open_at
  place_not_silent l =
      let r = passing_item opens n 0 l in
      let x = step_at M.carriers (get_or (passing opens n) 0 0) in
      ⊎_elim (λ (h : is_silent M s ≡ true). true_false_absurd r.passes (silent_shut M s h x))
      (λ (h : is_silent M s ≡ false). h) (true_or_false (is_silent M s))

  -- The list of open places.
  pub open_listed : (p : ℕ) →
      ((p < n) × (opens p ≡ true)) ↔ ((i : ℕ) × (i < length (open_places M s)) × (get_or (open_places M s) i 0 ≡ p))
  unfolding open_places
  open_listed p = (λ h. let r = passing_at opens n p h.0 h.1 in (count opens p, r.0, r.1), back)
    where
      back : ((i : ℕ) × (i < count opens n) × (get_or (passing opens n) i 0 ≡ p)) → (p < n) × (opens p ≡ true)
      back h = let r = passing_item opens n h.0 h.1 in (rw h.2 at r.listed, rw h.2 at r.passes)

  pub open_rising : (i j : ℕ) → i < j → j < length (open_places M s) → get_or (open_places M s) i 0 < get_or (open_places M s) j 0
  unfolding open_places
  open_rising i j l h =
      let a = passing_item opens n i (omega arith) in
      let b = passing_item opens n j h in
      ⊎_elim (λ (r : get_or (passing opens n) i 0 < get_or (passing opens n) j 0). r)
      (λ (r : get_or (passing opens n) j 0 ≤ get_or (passing opens n) i 0).
      absurd (omega (arith, count_mono opens _ _ r, a.before, b.before)))
      (lt_or_le (get_or (passing opens n) i 0) (get_or (passing opens n) j 0))

  -- The first open place.
  first_rule : (p : ℕ) → ItemAt opens n 0 p → (p' : ℕ) → 0 ≤ p' → p' < p → opens p' ≡ false
  first_rule p r = none_between opens 0 p (omega (arith, r.before, count_none opens))

  -- The open place behind those before kept, with kept before the last open one.
  onward_rule : (kept p : ℕ) → ItemAt opens n (count opens kept) p → FirstRound M s kept p
  onward_rule kept p r =
      ⊎_elim
      (λ (h : p < kept). absurd (omega (arith, (passing_at opens kept p h r.passes).0, r.before)))
      (λ (h : kept ≤ p). onward h (none_between opens kept p (omega (arith, r.before))))
      (lt_or_le p kept)

  -- The first open place, where all of them are before kept.
  around_rule : (kept p : ℕ) → count opens n ≤ count opens kept → ItemAt opens n 0 p → FirstRound M s kept p
  around_rule kept p e r =
      ⊎_elim
      (λ (h : p < kept). around h (none_between opens kept n e) (first_rule p r))
      (λ (h : kept ≤ p). true_false_absurd r.passes (none_between opens kept n e p h r.listed))
      (lt_or_le p kept)

  round_rule : (kept p : ℕ) → kept ≤ n → ItemAt opens n (count opens kept % count opens n) p → FirstRound M s kept p
  round_rule kept p l r =
      ⊎_elim
      (λ (h : count opens kept ≡ count opens n). around_rule kept p (omega arith) (rw (h, mod_self (count opens n)) at r))
      (λ (h : count opens kept < count opens n). onward_rule kept p (rw (mod-eq_of_lt h) at r))
      (eq-or-lt_of_le (count_mono opens kept n l))

  -- The chosen place is an item of the list of open places.
  pub chosen_item : (o : Order) (kept : ℕ) → 0 < count opens n → ItemAt opens n (turn o M s kept % count opens n) (chosen o M s kept)
  unfolding chosen open_places
  chosen_item o kept l = passing_item opens n (turn o M s kept % count opens n) (mod-lt (turn o M s kept) l)

  drawn_rule : (kept : ℕ) → chosen drawn M s kept ≡ get_or (open_places M s) (drawn_by kept % length (open_places M s)) 0
  unfolding chosen turn
  drawn_rule kept = refl

  pub chosen_takes : (o : Order) (kept : ℕ) → Memory o M kept → 0 < count opens n → Takes o M s kept (chosen o M s kept)
  unfolding Memory MayTake turn remembered
  chosen_takes first kept h l =
      let r = chosen_item first kept l in
      record { listed = r.listed; opened = r.passes; rule = first_rule _ (rw (mod-eq_of_lt l) at r); next = tt }
  chosen_takes round kept h l =
      let r = chosen_item round kept l in
      record { listed = r.listed; opened = r.passes; rule = round_rule kept _ h r; next = r.listed }
  chosen_takes drawn kept h l =
      let r = chosen_item drawn kept l in
      record { listed = r.listed; opened = r.passes; rule = drawn_rule kept; next = tt }
