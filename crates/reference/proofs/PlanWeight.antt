-- A plan lowers the potential: carrier i pays 2^(n − i) − 1 for being due, and sends at most one message to each carrier below,
-- which weigh 2^(n − i − 1) + .. + 2 = 2^(n − i) − 2 together.
use Prim.Native.Nat.{ℕ, zero, suc, ◌+◌, ◌≤◌, ◌<◌}
use native.Mathlib.Omega.{arith}
use native.Mathlib.Nat.{eq-or-lt_of_le, add-mul, one-mul, mul-le-mul_right}
use mathlib.Core.Bool.{Bool, true, false}
use mathlib.Core.List.{[], ◌∷◌}
use mathlib.Core.Logic.{⊎_elim}
use mathlib.Core.Path.{◌≡◌, refl, ap, sym}
use lib.ListN.{length, length-append}
use Rattle.route.specs.Route.{Answer}
use Rattle.reference.specs.State.{State}
use Rattle.reference.specs.Take.{is_news, plan_as}
use Rattle.reference.proofs.TakeLaws.{plan_keeps, sent_below_lem, chan_other, chan_above, plan_clears}
use Rattle.reference.proofs.Sums.{sum_to, sum_same, sum_less}
use Rattle.reference.proofs.Potential.{unit, unit_double, unit_last, unit_positive, due_weight, under_way, weight_at, potential}

module _
    (n i : ℕ) (φ ψ : ℕ → ℕ)
    (above : (j : ℕ) → j < i → ψ j ≡ φ j) (own : ψ i + unit n i ≡ φ i + 1)
    (beneath : (j : ℕ) → i < j → j < n → ψ j ≤ φ j + unit n j) where
  sum_own : (p : ℕ) → i ≡ p → sum_to (suc p) ψ + unit n p ≤ sum_to (suc p) φ + 1
  unfolding sum_to
  sum_own p q = rw (← q) (omega (arith, sum_same i ψ φ above))

  -- Weights ψ after a plan of carrier i, φ before it: up to carrier p, ψ leaves room for the messages to those after p.
  plan_sum : (p : ℕ) → i ≤ p → p < n → sum_to (suc p) ψ + unit n p ≤ sum_to (suc p) φ + 1
  unfolding sum_to
  plan_sum zero l h = sum_own 0 (omega arith)
  plan_sum (suc p) l h =
      ⊎_elim (λ (q : i ≡ suc p). sum_own (suc p) q)
      (λ (q : i < suc p).
      omega (arith, plan_sum p (omega arith) (omega arith), beneath (suc p) q h, unit_double n p (omega arith)))
      (eq-or-lt_of_le l)

  plan_total : (k : ℕ) → k ≡ n → i < k → sum_to k ψ < sum_to k φ
  plan_total zero e l = absurd (omega arith)
  plan_total (suc p) e l =
      let last : unit n (suc p) ≡ 1 = rw e (unit_last n) in
      omega (arith, plan_sum p (omega arith) (omega arith), unit_double n p (omega arith))

module _ (n : ℕ) (s : State) (i : ℕ) (x : Answer) where
  messages_above : (k : ℕ) → k ≤ i → under_way (plan_as s i x) k ≡ under_way s k
  unfolding under_way
  messages_above k l =
      sum_same k (λ j. length ((plan_as s i x).chan k j)) (λ j. length (s.chan k j)) (λ j h. ap length (chan_above s i x k j l))

  messages_below : (k : ℕ) → i < k → under_way (plan_as s i x) k ≤ under_way s k + 1
  unfolding under_way
  messages_below k l = go (is_news s i x) refl
    where
      go : (y : Bool) → is_news s i x ≡ y → under_way (plan_as s i x) k ≤ under_way s k + 1
      go true e =
          omega (
            arith,
            sum_less k i 1 (λ j. length (s.chan k j)) (λ j. length ((plan_as s i x).chan k j)) l
                (rw (sent_below_lem s i x e k l) (omega (arith, length-append (s.chan k i) (x ∷ []))))
                (λ j h q. ap length (sym (chan_other s i x k j q))),
          )
      go false e = rw (plan_keeps s i x e) (omega arith)

  weight_above : (k : ℕ) → k < i → weight_at n (plan_as s i x) k ≡ weight_at n s k
  unfolding weight_at
  weight_above k l = rw ((plan_clears s i x).elsewhere k (λ q. omega arith), messages_above k (omega arith)) refl

  weight_own : s.due i ≡ true → weight_at n (plan_as s i x) i + unit n i ≡ weight_at n s i + 1
  unfolding weight_at due_weight
  weight_own d = rw ((plan_clears s i x).there, messages_above i (omega arith), d) (omega (arith, unit_positive n i))

  weight_below : (k : ℕ) → i < k → weight_at n (plan_as s i x) k ≤ weight_at n s k + unit n k
  unfolding weight_at
  weight_below k l =
      rw ((plan_clears s i x).elsewhere k (λ q. omega arith))
      (omega (arith, add-mul (under_way s k) 1 (unit n k), one-mul (unit n k), mul-le-mul_right (unit n k) (messages_below k l)))

  pub plan_lowers : s.due i ≡ true → i < n → potential n (plan_as s i x) < potential n s
  unfolding potential
  plan_lowers d l =
      plan_total n i (weight_at n s) (weight_at n (plan_as s i x)) weight_above (weight_own d) (λ k h b. weight_below k h) n refl l
