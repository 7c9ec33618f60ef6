-- Laws of `each`: what it says of each test, and a loop that tests in turn and stops at the first test that fails.
use Prim.Native.Nat.{ℕ, suc, zero, ◌+◌, ◌≤◌, ◌<◌}
use native.Mathlib.Omega.{arith}
use native.Mathlib.Numerals.{add-one}
use mathlib.Core.Path.{◌≡◌, refl, sym}
use mathlib.Core.Bool.{Bool, true, false, and-eq-true_iff}
use mathlib.Core.Logic.{◌↔◌}
use borrow.Author.Count.{below_more}
use borrow.Author.Rules.{rules}
use Rattle.laws.specs.Verdict.{All, each}
use Rattle.laws.proofs.Tests.{and_both, not_true_is_false, false_fails}
use Rattle.laws.proofs.CodeTests.{says}
use Rattle.laws.proofs.EachLaws.{Decides}

-- Each test holds exactly if each of the statements that they decide does.
pub each_decides : (φ : ℕ → Bool) (P : ℕ → Type 0) → Decides φ P → (k : ℕ) → (each k φ ≡ true) ↔ All P k
unfolding each
each_decides φ P means zero = (λ h i l. absurd (omega arith), λ a. refl)
each_decides φ P means (suc k) = (
  λ h i l.
      let b = (and-eq-true_iff (each k φ) (φ k)).0 h in
      below_more P k ((each_decides φ P means k).0 b.0) ((means k).0 b.1) i (omega arith),
  λ a. and_both ((each_decides φ P means k).1 (λ i l. a i (omega arith))) ((means k).1 (a k (omega arith))),
)

-- Each test holds where `each` says so, and the other way round.
pub each_holds : (k : ℕ) (φ : ℕ → Bool) → each k φ ≡ true → (i : ℕ) → i < k → φ i ≡ true
each_holds k φ h = (each_decides φ (λ (i : ℕ). φ i ≡ true) (λ i. (λ e. e, λ e. e)) k).0 h

pub each_true : (k : ℕ) (φ : ℕ → Bool) → ((i : ℕ) → i < k → φ i ≡ true) → each k φ ≡ true
each_true k φ h = (each_decides φ (λ (i : ℕ). φ i ≡ true) (λ i. (λ e. e, λ e. e)) k).1 h

-- Tests that agree at each place.
pub each_same : (k : ℕ) (φ ψ : ℕ → Bool) → All (λ (i : ℕ). φ i ≡ ψ i) k → each k φ ≡ each k ψ
unfolding each
each_same zero φ ψ a = refl
each_same (suc k) φ ψ a = rw (each_same k φ ψ (λ i l. a i (omega arith)), a k (omega arith))

-- A loop: before the first test; one more that holds; the first that fails; the end.
pub hold_none : (φ : ℕ → Bool) → each 0 φ ≡ true
unfolding each
hold_none φ = refl

pub hold_more : (φ : ℕ → Bool) (i : ℕ) → each i φ ≡ true → φ i ≡ true → each (i + 1) φ ≡ true
unfolding each
hold_more φ i h t = rw (add-one, h, t)

pub hold_stop : (φ : ℕ → Bool) (i k : ℕ) → i < k → φ i ≡ false → false ≡ each k φ
hold_stop φ i k l f = sym (not_true_is_false (each k φ) (λ h. false_fails f (each_holds k φ h i l)))

pub hold_end : (φ : ℕ → Bool) (i k : ℕ) → i ≤ k → k ≤ i → each i φ ≡ true → true ≡ each k φ
hold_end φ i k a b h =
    let e : i ≡ k = omega arith in
    sym (rw e at h)

-- What the answers of such a loop take.
pub ruleset hold_turn = (rules, hold_none, hold_more, hold_stop, hold_end, says)
