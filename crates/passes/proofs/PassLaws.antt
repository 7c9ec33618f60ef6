-- The turns of the passes: one more set that follows from the one beside it.
use Prim.Native.Nat.{ℕ, zero, suc, ◌+◌, ◌-◌, ◌≤◌, ◌<◌}
use native.Mathlib.Omega.{arith}
use native.Mathlib.Nat.{eq-or-lt_of_le}
use native.Mathlib.Numerals.{add-one}
use mathlib.Core.Bool.{Bool, true, false}
use mathlib.Core.List.{List}
use mathlib.Core.Logic.{⊎_elim}
use mathlib.Core.Path.{◌≡◌, sym, ◌∙◌}
use borrow.Author.Tests.{leb-true, le-leb}
use lib.ListN.{get_or}
use Rattle.laws.proofs.Tests.{lt_or_le, true_false_absurd}
use Rattle.layers.specs.declared.SearchGrid.{SearchGrid}
use Rattle.layers.specs.Table.{in_set}
use Rattle.layers.specs.Step.{ChangedAt, Alone, Spread, beat_after, Swept}
use Rattle.layers.proofs.MemberLaws.{near_same}
use Rattle.layers.proofs.SweptLaws.{spread_same}
use Rattle.passes.specs.Passes.{ForwardReachable, BackwardReachable, Earliest}
use Rattle.passes.specs.declared.docks.Docks.{Docks}
use Rattle.passes.specs.Docks.{held_from, held_at, Holdable, arrivable_at, arrivable, EndsAt}
use Rattle.passes.proofs.AnyLaws.{Passing, any_says, any_holds}
use Rattle.passes.proofs.HoldLaws.{held_says, held_least, held_upto}
use Rattle.passes.proofs.EndsLaws.{arrivable_says, arrivable_holds}

-- The forward pass: the start alone, then more sets.
pub reached_none : (g : SearchGrid) (table sets after : List ℕ) (start : ℕ) → ChangedAt g sets 0 after → Alone g after 0 start →
    ForwardReachable g table start 0 after
reached_none g table sets after start only alone = record { tidy = only.tidy; begins = alone; spreads = λ t h. absurd (omega arith) }

pub reached_more : (g : SearchGrid) (table sets after : List ℕ) (start n more : ℕ) → ForwardReachable g table start n sets →
    Swept g table sets n false more after → ForwardReachable g table start (n + more) after
unfolding beat_after
reached_more g table sets after start n more x new =
    record {
      tidy = new.tidy;
      begins = record {
        says = λ d e. x.begins.says d (sym (kept 0 d (omega arith)) ∙ e);
        holds = kept 0 start (omega arith) ∙ x.begins.holds;
      };
      spreads = λ t h. ⊎_elim (λ (l : t < n). spread_same g table sets after t (t + 1) (λ c. kept t c (omega arith))
          (λ c. kept (t + 1) c (omega arith)) (x.spreads t l)) (λ (l : n ≤ t). spreads t l h) (lt_or_le t n);
    }
  where
    kept : (t c : ℕ) → t ≤ n → in_set g after t c ≡ in_set g sets t c
    kept t c h = new.kept t c (λ i l e. omega arith)

    spreads : (t : ℕ) → n ≤ t → t < n + more → Spread g table after t (t + 1)
    spreads t h l =
        let e : n + (t - n) ≡ t = omega arith in
        let f : n + (t - n + 1) ≡ t + 1 = omega arith in
        rw (e, f) at (new.spreads (t - n) (omega arith))

-- Fewer beats are reached as well.
pub reached_fewer : (g : SearchGrid) (table sets : List ℕ) (start n a : ℕ) → a ≤ n → ForwardReachable g table start n sets →
    ForwardReachable g table start a sets
reached_fewer g table sets start n a h x = record { tidy = x.tidy; begins = x.begins; spreads = λ t l. x.spreads t (omega arith) }

-- The backward pass: steps from the docks at beat a down to beat 0.
pub leading_swept : (g : SearchGrid) (table sets after : List ℕ) (ds : Docks) (a : ℕ) → EndsAt g sets ds a ds.count →
    Swept g table sets a true a after → BackwardReachable g table ds a 0 after
unfolding beat_after
leading_swept g table sets after ds a ends x =
    record { tidy = x.tidy; ends = λ c. x.kept a c (λ i l e. omega arith) ∙ ends c; spreads = spreads }
  where
    spreads : (t : ℕ) → 0 ≤ t → t < a → Spread g table after (t + 1) t
    spreads t h l =
        let e : a - (a - (t + 1)) ≡ t + 1 = omega arith in
        let f : a - (a - (t + 1) + 1) ≡ t = omega arith in
        rw (e, f) at (x.spreads (a - (t + 1)) (omega arith))

module _ (g : SearchGrid) (table sets : List ℕ) (start n : ℕ) (ds : Docks) (reached : ForwardReachable g table start n sets)
    (early : n ≤ g.horizon) (free : Holdable g table ds) where
  -- The beat after an arrival is one, so all after it are.
  arrival_next : (t : ℕ) → t < n → arrivable g sets ds t ≡ true → arrivable g sets ds (t + 1) ≡ true
  unfolding arrivable held_at
  arrival_next t l e =
      let p : Passing (arrivable_at g sets ds t) ds.count = any_says (arrivable_at g sets ds t) ds.count e in
      let told = arrivable_says g sets ds t p.which p.passes in
      let later = le-leb (get_or ds.holds p.which 0) (t + 1) (omega (arith, leb-true (get_or ds.holds p.which 0) t told.0)) in
      let d = get_or ds.cells p.which 0 in
      any_holds (arrivable_at g sets ds (t + 1)) ds.count p.which p.below (arrivable_holds g sets ds (t + 1) p.which later
      ((reached.spreads t l).holds d (free (t + 1) p.which p.below later (omega arith)) (d, told.1, near_same g.width d)))

  arrival_stays : (t u : ℕ) → t ≤ u → u ≤ n → arrivable g sets ds t ≡ true → arrivable g sets ds u ≡ true
  arrival_stays t zero h l e = let same : t ≡ 0 = omega arith in rw same at e
  arrival_stays t (suc u) h l e =
      ⊎_elim (λ (q : t ≡ suc u). rw q at e)
      (λ (q : t < suc u). rw add-one at (arrival_next u l (arrival_stays t u (omega arith) (omega arith) e)))
      (eq-or-lt_of_le h)

  -- What the pass finds at beat n: nothing, at the last one, or the least arrival.
  pub found_nothing : n ≡ g.horizon → arrivable g sets ds n ≡ false → Earliest (arrivable g sets ds) (g.horizon + 1) (n + 1)
  found_nothing q e =
      record {
        upto = omega arith;
        none_before = λ b h i. true_false_absurd (arrival_stays b n (omega arith) (omega arith) i) e;
        passes = λ h. absurd (omega arith);
      }

  pub found_least : arrivable g sets ds n ≡ true → Earliest (arrivable g sets ds) (g.horizon + 1) (held_from (arrivable g sets ds) n)
  found_least e =
      record {
        upto = omega (arith, held_upto φ n);
        none_before = λ b h i. absurd (omega (arith, h, held_least φ b n (λ t a u. arrival_stays b t a (omega arith) i)));
        passes = λ h. ⊎_elim (λ (q : held_from φ n ≡ n). rw q e)
            (λ (q : held_from φ n < n). held_says φ (held_from φ n) n (omega arith) (held_from φ n) (omega arith) q)
            (eq-or-lt_of_le (held_upto φ n));
      }
    where
      φ : ℕ → Bool
      φ = arrivable g sets ds
