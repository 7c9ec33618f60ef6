-- The steps of the ranking by their places, as the code finds them, and as numbers.
use Rattle.std.proofs.Common.{◌≡◌, ℕ, suc, ◌+◌, ◌-◌, ◌*◌, ◌/◌, ◌<◌, ◌≤◌, true, sym, ap, ⊎_elim, mul-le-mul, eq-or-lt_of_le, add-one, arith}
use native.Mathlib.Nat.{div-le_of_le-mul}
use Rattle.floor.specs.declared.Floor.{Floor}
use Rattle.reference.specs.Step.{plan, deliver, is_there}
use Rattle.encoding.specs.Calls.{machine_of}
use Rattle.steps.specs.Inner.{bare}
use Rattle.orders.specs.Orders.{places, step_at}
use Rattle.orders.proofs.PlaceLaws.{deliveries_before, before_none, before_more, places_split, places_half, plan_at, deliver_at, at_there}

module _ (n : ℕ) (few : n ≤ 8) where
  pub count_fits : n * (n + 1) ≤ 72
  count_fits = omega (arith, mul-le-mul {n₁ = n} {m₁ = n + 1} {n₂ = 8} {m₂ = 9} few (omega arith))

  pub count_most : n * (n + 1) / 2 ≤ 36
  count_most = div-le_of_le-mul 2 {m = n * (n + 1)} {n = 36} (omega (arith, count_fits))

  pub places_most : places n ≤ 36
  places_most = omega (arith, count_most, places_half n)

-- The loop over senders: d deliveries behind those of the senders before j.
pub record Behind (n p j d : ℕ) : Type 0 where
  pub sender : j < n
  pub place : p ≡ n + deliveries_before n j + d

module _ (n p : ℕ) (listed : p < places n) where
  pub behind_start : n ≤ p → Behind n p 0 (p - n)
  behind_start l =
      ⊎_elim
      (λ (e : 0 ≡ n). absurd (omega (arith, places_split n, before_none n, ap (deliveries_before n) e)))
      (λ (h : 0 < n). record { sender = h; place = omega (arith, before_none n) })
      (eq-or-lt_of_le (omega arith))

  pub behind_more : (j d : ℕ) → Behind n p j d → n - (j + 1) ≤ d → Behind n p (j + 1) (d - (n - (j + 1)))
  behind_more j d r l =
      ⊎_elim
      (λ (e : suc j ≡ n). absurd (omega (arith, r.place, before_more n j, places_split n, ap (deliveries_before n) e)))
      (λ (h : suc j < n).
      record { sender = omega arith; place = rw add-one (omega (arith, r.place, before_more n j)) })
      (eq-or-lt_of_le r.sender)

  pub behind_end : (j d : ℕ) → Behind n p j d → d < n - (j + 1) → deliver j (j + 1 + d) ≡ step_at n p
  behind_end j d r l =
      rw (add-one, r.place) (sym (deliver_at n j d r.sender (omega arith)).1)

  pub plan_is : p < n → plan p ≡ step_at n p
  plan_is l = sym (plan_at n p l)

-- The step at a place is there.
pub listed_there : (f : Floor) (p : ℕ) → p < places f.carriers → is_there (bare f) (step_at f.carriers p) ≡ true
unfolding bare machine_of
listed_there f p l = at_there (bare f) p l
