-- A delivery lowers the potential: a message to carrier i weighs 2^(n − i), being due at most one less.
use Prim.Native.Nat.{ℕ, ◌+◌, ◌-◌, ◌≤◌, ◌<◌}
use native.Mathlib.Omega.{arith}
use native.Mathlib.Nat.{add-mul, one-mul}
use mathlib.Core.Bool.{Bool, true, false}
use mathlib.Core.List.{List, [], ◌∷◌}
use mathlib.Core.Path.{◌≡◌, refl, ap}
use lib.ListN.{length}
use Rattle.route.specs.Route.{Answer}
use Rattle.laws.proofs.Tests.{true_false_absurd}
use Rattle.reference.specs.State.{State}
use Rattle.reference.specs.Step.{is_empty}
use Rattle.reference.specs.Take.{newer, deliver_to}
use Rattle.reference.proofs.TakeLaws.{deliver_due, deliver_chan}
use Rattle.reference.proofs.Sums.{sum_less}
use Rattle.reference.proofs.Potential.{unit, unit_positive, due_weight, under_way, weight_at, potential}

newer_length : (xs : List Answer) → is_empty xs ≡ false → length (newer xs) + 1 ≡ length xs
unfolding is_empty newer
newer_length [] e = true_false_absurd refl e
newer_length (x ∷ xs) e = omega arith

due_most : (x : Bool) (n : ℕ) → due_weight x n ≤ n - 1
unfolding due_weight
due_most true n = omega arith
due_most false n = omega arith

module _ (n : ℕ) (s : State) (j i : ℕ) where
  messages_other : (k : ℕ) → (k ≡ i → ⊥) → under_way (deliver_to s j i) k ≡ under_way s k
  unfolding under_way
  messages_other k h = rw ((deliver_chan s j i).elsewhere k h)

  messages_less : j < i → is_empty (s.chan i j) ≡ false → under_way (deliver_to s j i) i + 1 ≡ under_way s i
  unfolding under_way
  messages_less l e =
      sum_less i j 1 (λ k. length ((deliver_to s j i).chan i k)) (λ k. length (s.chan i k)) l
      (rw (deliver_chan s j i).there (newer_length (s.chan i j) e)) (λ k h q. ap length ((deliver_chan s j i).beside k q))

  weight_other : (k : ℕ) → (k ≡ i → ⊥) → weight_at n (deliver_to s j i) k ≡ weight_at n s k
  unfolding weight_at
  weight_other k h = rw ((deliver_due s j i).elsewhere k h, messages_other k h) refl

  weight_less : j < i → is_empty (s.chan i j) ≡ false → weight_at n (deliver_to s j i) i < weight_at n s i
  unfolding weight_at
  weight_less l e =
      rw (← messages_less l e)
      (omega (
        arith,
        add-mul (under_way (deliver_to s j i) i) 1 (unit n i),
        one-mul (unit n i),
        due_most ((deliver_to s j i).due i) (unit n i),
        unit_positive n i,
      ))

  pub deliver_lowers : j < i → i < n → is_empty (s.chan i j) ≡ false → potential n (deliver_to s j i) < potential n s
  unfolding potential
  deliver_lowers l h e =
      let φ = weight_at n (deliver_to s j i) in
      let ψ = weight_at n s in
      omega (
        arith,
        sum_less n i (ψ i - φ i) φ ψ h (omega (arith, weight_less l e)) (λ k b q. weight_other k q),
        weight_less l e,
      )
