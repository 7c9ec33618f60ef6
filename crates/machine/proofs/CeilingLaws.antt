-- The handbook's figures are the formula's values; what the ceiling's entry answers.
use Prim.Native.Nat.{ℕ, suc, ◌-◌, ◌^◌, ◌≤◌, ◌<◌}
use native.Mathlib.Omega.{arith}
use native.Mathlib.Nat.{pow-le-pow_right}
use borrow.Author.Tests.{le-leb, lt-leb, eqb-true}
use mathlib.Core.Bool.{true}
use mathlib.Core.Path.{◌≡◌, refl, ◌∙◌, ap}
use lib.Dec.{eqb}
use lib.ListN.{get_or}
use Rattle.laws.specs.Verdict.{Outcome, value, refusal, demand, ◌gives◌, each}
use Rattle.floor.specs.Checks.{within}
use Rattle.reference.specs.Quiescent.{ceiling}
use Rattle.laws.proofs.HoldLaws.{each_holds}
use Rattle.machine.specs.Ceiling.{most_steps}
use Rattle.machine.proofs.Figures.{figures}

-- The test over the whole table, which the checker computes.
all_right : each 8 (λ k. eqb (get_or figures k 0) (ceiling (suc k))) ≡ true
unfolding each figures ceiling
all_right = refl

-- The rule at each entry.
pub figure_right : (n : ℕ) → 1 ≤ n → n ≤ 8 → get_or figures (n - 1) 0 ≡ ceiling n
figure_right n l h =
    let same : suc (n - 1) ≡ n = omega arith in
    eqb-true _ _ (each_holds 8 (λ k. eqb (get_or figures k 0) (ceiling (suc k))) all_right (n - 1) (omega arith)) ∙ ap ceiling same

-- How large the formula's power is.
pub power_most : (k : ℕ) → k ≤ 9 → 2 ^ k ≤ 512
power_most k l = pow-le-pow_right (omega arith) l

module _ (n : ℕ) where
  pub most_low : {x : Outcome ℕ} → x ≡ refusal 2 5 → n < 1 → x ≡ most_steps n
  unfolding most_steps ◌gives◌ demand within
  most_low e l = rw (lt-leb 1 n l) e

  pub most_high : {x : Outcome ℕ} → x ≡ refusal 2 5 → 1 ≤ n → 8 < n → x ≡ most_steps n
  unfolding most_steps ◌gives◌ demand within
  most_high e l h = rw (le-leb 1 n l, lt-leb n 8 h) e

  pub most_is : {k : ℕ} → k ≡ ceiling n → 1 ≤ n → n ≤ 8 → value k ≡ most_steps n
  unfolding most_steps ◌gives◌ demand within
  most_is e l h = rw (le-leb 1 n l, le-leb n 8 h, e) refl

-- The answers, a law a case.
pub ruleset most_cases = (most_low, most_high, most_is)
