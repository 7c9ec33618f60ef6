-- The best answer is one, and depends on the views only through what they occupy.
use Prim.Native.Nat.{ℕ, ◌≤◌, ◌<◌}
use native.Mathlib.Omega.{arith}
use mathlib.Core.List.Memᴰ
use mathlib.Core.List.{List, ◌∷◌, ◌++◌, Memᴰ}
use mathlib.Core.Logic.{◌⊎◌, inl, inr, ⊎_elim, ◌↔◌}
use mathlib.Core.Path.{◌≡◌, refl, sym, ap, subst}
use Rattle.route.specs.Route.{cell_at, Answer, none, route, View, Task}
use Rattle.route.specs.Conflict.{ClearOfView, ClearOf}
use Rattle.route.specs.Best.{Arrives, Before, Admissible, BestRoute, Best}
use Rattle.route.specs.Arrival.{arrival_of}
use Rattle.route.specs.Search.{best}
use Rattle.laws.proofs.Tests.{lt_or_le}
use Rattle.route.proofs.ArrivalLaws.{arrival_arrives}
use Rattle.route.proofs.Meets.{best_meets}

-- Two routes are not each before the other.
before_asym : (r q : List ℕ) → Before r q → Before q r → ⊥
before_asym r q a b = split (lt_or_le a.beat b.beat) (lt_or_le b.beat a.beat)
  where
    meet : a.beat ≡ b.beat → ⊥
    meet e = omega (arith, a.smaller, subst (λ (t : ℕ). cell_at q t < cell_at r t) (sym e) b.smaller)

    split : (a.beat < b.beat) ⊎ (b.beat ≤ a.beat) → (b.beat < a.beat) ⊎ (a.beat ≤ b.beat) → ⊥
    split (inl l) k = omega (arith, a.smaller, b.same a.beat l)
    split (inr l) (inl k) = omega (arith, b.smaller, a.same b.beat k)
    split (inr l) (inr k) = meet (omega arith)

module _ (task : Task) where
  route_unique : (vs : List View) (r q : List ℕ) → BestRoute task vs r → BestRoute task vs q → r ≡ q
  route_unique vs r q x y =
      split (x.first q a y.admissible hr (rw (← equal) at hq)) (y.first r a x.admissible (rw (← equal) at hq) hr)
    where
      a : ℕ
      a = arrival_of r task.horizon

      b : ℕ
      b = arrival_of q task.horizon

      hr : Arrives task.horizon r a
      hr = arrival_arrives r task.horizon

      hq : Arrives task.horizon q b
      hq = arrival_arrives q task.horizon

      equal : a ≡ b
      equal = omega (arith, x.earliest q a b y.admissible hr hq, y.earliest r b a x.admissible hq hr)

      split : (q ≡ r) ⊎ Before r q → (r ≡ q) ⊎ Before q r → r ≡ q
      split (inl e) h = sym e
      split (inr e) (inl h) = h
      split (inr e) (inr h) = absurd (before_asym r q e h)

  pub best_unique : (vs : List View) (x y : Answer) → Best task vs x → Best task vs y → x ≡ y
  unfolding Best
  best_unique vs none none hx hy = refl
  best_unique vs none (route q) hx hy = absurd (hx q hy.admissible)
  best_unique vs (route r) none hx hy = absurd (hy r hx.admissible)
  best_unique vs (route r) (route q) hx hy = ap route (route_unique vs r q hx hy)

  -- What is clear of vs is clear of vs'.
  abbrev Covers : List View → List View → Type 0
  Covers vs vs' = (r : List ℕ) → ClearOf task.horizon r vs → ClearOf task.horizon r vs'

  carry : (vs vs' : List View) → Covers vs vs' → (q : List ℕ) → Admissible task vs q → Admissible task vs' q
  carry vs vs' c q adm = record { is_route = adm.is_route; clear = c q adm.clear }

  best_carry : (vs vs' : List View) → Covers vs vs' → Covers vs' vs → (x : Answer) → Best task vs x → Best task vs' x
  unfolding Best
  best_carry vs vs' to from none h = λ q adm. h q (carry vs' vs from q adm)
  best_carry vs vs' to from (route r) h =
      record {
        admissible = carry vs vs' to r h.admissible;
        earliest = λ q a b adm. h.earliest q a b (carry vs' vs from q adm);
        first = λ q a adm. h.first q a (carry vs' vs from q adm);
      }

  pub best_same_clear : task.horizon ≤ 63 → (vs vs' : List View) → Covers vs vs' → Covers vs' vs → best task vs ≡ best task vs'
  best_same_clear short vs vs' to from =
      best_unique vs' (best task vs) (best task vs') (best_carry vs vs' to from (best task vs) (best_meets task vs short))
      (best_meets task vs' short)

  -- Order and repetition of the views do not matter.
  pub best_same_views : task.horizon ≤ 63 → (vs vs' : List View) → ((v : View) → Memᴰ v vs → Memᴰ v vs') →
      ((v : View) → Memᴰ v vs' → Memᴰ v vs) → best task vs ≡ best task vs'
  unfolding ClearOf
  best_same_views short vs vs' to from = best_same_clear short vs vs' (λ r c v m. c v (from v m)) (λ r c v m. c v (to v m))

  -- A view that nothing conflicts with may be left out.
  pub best_left_out : task.horizon ≤ 63 → (vs vs' : List View) (v : View) → ((r : List ℕ) → ClearOfView task.horizon r v) →
      best task (vs ++ (v ∷ vs')) ≡ best task (vs ++ vs')
  unfolding ClearOf
  best_left_out short vs vs' v silent = best_same_clear short (vs ++ (v ∷ vs')) (vs ++ vs') fewer more
    where
      wider : (v' : View) → Memᴰ v' vs ⊎ Memᴰ v' vs' → Memᴰ v' (vs ++ (v ∷ vs'))
      wider v' (inl m) = Memᴰ.append_left (v ∷ vs') m
      wider v' (inr m) = Memᴰ.append_right vs (Memᴰ.tail m)

      fewer : (r : List ℕ) → ClearOf task.horizon r (vs ++ (v ∷ vs')) → ClearOf task.horizon r (vs ++ vs')
      fewer r c u m = c u (wider u (Memᴰ.append_cases vs m))

      last : (r : List ℕ) → ClearOf task.horizon r (vs ++ vs') → (v' : View) → (v' ≡ v) ⊎ Memᴰ v' vs' →
          ClearOfView task.horizon r v'
      last r c v' (inl e) = rw e (silent r)
      last r c v' (inr m) = c v' (Memᴰ.append_right vs m)

      more : (r : List ℕ) → ClearOf task.horizon r (vs ++ vs') → ClearOf task.horizon r (vs ++ (v ∷ vs'))
      more r c u m =
          ⊎_elim (λ (k : Memᴰ u vs). c u (Memᴰ.append_left vs' k)) (λ (k : Memᴰ u (v ∷ vs')). last r c u (Memᴰ.cases_cons k))
          (Memᴰ.append_cases vs m)

  pub best_none : (vs : List View) → Best task vs none → (q : List ℕ) → Admissible task vs q → ⊥
  unfolding Best
  best_none vs h = h

  pub none_best : (vs : List View) → ((q : List ℕ) → Admissible task vs q → ⊥) → Best task vs none
  unfolding Best
  none_best vs h = h

  pub best_of : (vs : List View) (r : List ℕ) → Best task vs (route r) → BestRoute task vs r
  unfolding Best
  best_of vs r h = h

  pub of_best : (vs : List View) (r : List ℕ) → BestRoute task vs r → Best task vs (route r)
  unfolding Best
  of_best vs r h = h

  -- The answer is none exactly if no route is admissible, and a route exactly if it is the best one.
  pub none_exactly : (vs : List View) → task.horizon ≤ 63 → (best task vs ≡ none) ↔ ((q : List ℕ) → Admissible task vs q → ⊥)
  none_exactly vs short = (
    λ e. best_none vs (rw e at (best_meets task vs short)),
    λ h. best_unique vs (best task vs) none (best_meets task vs short) (none_best vs h),
  )

  pub route_exactly : (vs : List View) (r : List ℕ) → task.horizon ≤ 63 → (best task vs ≡ route r) ↔ BestRoute task vs r
  route_exactly vs r short = (
    λ e. best_of vs r (rw e at (best_meets task vs short)),
    λ h. best_unique vs (best task vs) (route r) (best_meets task vs short) (of_best vs r h),
  )
