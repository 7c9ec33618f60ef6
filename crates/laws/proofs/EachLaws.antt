-- `demand_each` as a statement: it passes if every test holds, and refuses at the first that does not.
use Prim.Native.Nat.{ℕ, suc, zero, ◌+◌}
use native.Mathlib.Omega.{arith}
use mathlib.Core.Path.{◌≡◌, refl, sym}
use mathlib.Core.Bool.{Bool, true}
use borrow.Author.Count.{below_more}
use mathlib.Core.Logic.{◌↔◌}
use Rattle.laws.proofs.Tests.{not_true_is_false, false_fails}
use Rattle.laws.specs.Verdict.{passed, refused, ◌then◌, demand, in_turn, demand_each, All, First}
use Rattle.laws.proofs.VerdictLaws.{then_both, refused_by, demand_holds, demand_cases, refused_not_passed, each_stop}

-- The tests of a check and what they mean.
abbrev pub Decides : (ℕ → Bool) → (ℕ → Type 0) → Type 0
Decides ok P = (i : ℕ) → (ok i ≡ true) ↔ P i

module _ (k p : ℕ) (ok : ℕ → Bool) (P : ℕ → Type 0) (means : Decides ok P) where
  -- All tests hold where the check passes.
  pub each_passed : (n : ℕ) → demand_each k p ok n ≡ passed → All P n
  unfolding demand_each in_turn
  each_passed zero h i l = absurd (omega arith)
  each_passed (suc n) h i l =
      let b = then_both (demand_each k p ok n) (demand (ok n) k (p + n)) h in
      below_more P n (each_passed n b.0) ((means n).0 (demand_holds _ k (p + n) b.1)) i (omega arith)

  -- The check passes where all tests hold.
  pub all_passes : (n : ℕ) → All P n → demand_each k p ok n ≡ passed
  unfolding demand_each in_turn demand ◌then◌
  all_passes zero a = refl
  all_passes (suc n) a = rw (all_passes n (λ i l. a i (omega arith)), (means n).1 (a n (omega arith)))

  pub each_means : (n : ℕ) → (demand_each k p ok n ≡ passed) ↔ All P n
  each_means n = (each_passed n, all_passes n)

  -- What follows from a refusal: it has the check's own number and the place of the first test that fails.
  pub each_refused : (C : ℕ → ℕ → Type 0) (n k' p' : ℕ) → demand_each k p ok n ≡ refused k' p' → ((i : ℕ) → First P n i → C k (p + i)) →
      C k' p'
  unfolding demand_each in_turn
  each_refused C zero k' p' h f = absurd (refused_not_passed (sym h))
  each_refused C (suc n) k' p' h f =
      refused_by h
      (λ e. each_refused C n k' p' e (λ i s. f i (record { listed = omega (arith, s.listed); fails = s.fails; before = s.before })))
      (λ e g.
      let d = demand_cases (ok n) k (p + n) k' p' g in
      rw (d.1, d.2)
      (f n (record { listed = omega arith; fails = λ q. false_fails d.0 ((means n).1 q); before = each_passed n e })))

  -- The first failing test's refusal.
  pub first_refuses : (n i : ℕ) → First P n i → demand_each k p ok n ≡ refused k (p + i)
  first_refuses n i h =
      each_stop k p ok i n h.listed (all_passes i h.before) (not_true_is_false (ok i) (λ t. h.fails ((means i).0 t)))
