-- Which numbers name which steps.
use Prim.Native.Nat.{ℕ, ◌+◌, ◌*◌, ◌-◌, ◌/◌, ◌%◌, ◌≤◌, ◌<◌}
use native.Mathlib.Omega.{arith}
use mathlib.Core.Bool.{Bool, true, false}
use mathlib.Core.Logic.{◌↔◌}
use mathlib.Core.Path.{◌≡◌, refl, ◌∙◌, ap}
use borrow.Author.Tests.{leb-true, le-leb}
use lib.Dec.{leb}
use Rattle.floor.specs.Checks.{within}
use Rattle.laws.proofs.Tests.{and_both, and_fst, and_snd, not_true_is_false}
use Rattle.reference.specs.Step.{plan, deliver}
use Rattle.reference.specs.Table.{step, no_step}
use Rattle.encoding.specs.Numbers.{delivery_of, asked_by}

-- A number within a range, and one above it.
within_true : (low high x : ℕ) → low ≤ x → x ≤ high → within low high x ≡ true
unfolding within
within_true low high x a b = and_both (le-leb low x a) (le-leb x high b)

within_says : (low high x : ℕ) → within low high x ≡ true → (low ≤ x) × (x ≤ high)
unfolding within
within_says low high x e = (leb-true low x (and_fst (leb low x) (leb x high) e), leb-true x high (and_snd (leb low x) (leb x high) e))

above_false : (low high x : ℕ) → high < x → within low high x ≡ false
above_false low high x l = not_true_is_false (within low high x) (λ e. omega (arith, within_says low high x e))

-- The number of a plan, and that of a delivery.
plan_named : (i : ℕ) → i < 9 → asked_by (101 + i) ≡ step (plan i)
unfolding asked_by
plan_named i l =
    let less : 101 + i - 101 ≡ i = omega arith in
    rw (within_true 101 109 (101 + i) (omega arith) (omega arith)) (rw less)

deliver_named : (j i : ℕ) → j < 9 → i < 9 → asked_by (200 + 10 * (j + 1) + (i + 1)) ≡ step (deliver j i)
unfolding asked_by delivery_of
deliver_named j i a b =
    let x = 200 + 10 * (j + 1) + (i + 1) in
    let sender : (x - 200) / 10 - 1 ≡ j = omega arith in
    let receiver : x % 10 ≡ i + 1 = omega arith in
    let less : i + 1 - 1 ≡ i = omega arith in
    let low = above_false 101 109 x (omega arith) in
    let high = within_true 210 299 x (omega arith) (omega arith) in
    rw (low, high, receiver, le-leb 1 (i + 1) (omega arith), less, sender)

-- What a number names: a plan, a delivery, or no kind of step.
data Names (x : ℕ) : Type 0 where
  a_plan : 101 ≤ x → x ≤ 109 → asked_by x ≡ step (plan (x - 101)) → Names x
  a_delivery : 210 ≤ x → x ≤ 299 → 1 ≤ x % 10 → asked_by x ≡ step (deliver ((x - 200) / 10 - 1) (x % 10 - 1)) → Names x
  nothing : asked_by x ≡ no_step → Names x

names : (x : ℕ) → Names x
unfolding asked_by delivery_of
names x = go (within 101 109 x) (within 210 299 x) (leb 1 (x % 10)) refl refl refl
  where
    go : (y z x' : Bool) → within 101 109 x ≡ y → within 210 299 x ≡ z → leb 1 (x % 10) ≡ x' → Names x
    go true z x' p q r = a_plan (within_says 101 109 x p).0 (within_says 101 109 x p).1 (rw p)
    go false true true p q r = a_delivery (within_says 210 299 x q).0 (within_says 210 299 x q).1 (leb-true 1 (x % 10) r) (rw (p, q, r))
    go false true false p q r = nothing (rw (p, q, r))
    go false false x' p q r = nothing (rw (p, q))

plan_means : (x i : ℕ) → Names x → asked_by x ≡ step (plan i) → (i < 9) × (x ≡ 101 + i)
plan_means x i (a_plan a b q) e = let s : x - 101 ≡ i = cc in (omega arith, omega arith)
plan_means x i (a_delivery a b c q) e = let z : ◌≡◌ {A = ℕ} 0 1 = cc in absurd (omega arith)
plan_means x i (nothing q) e = let z : ◌≡◌ {A = ℕ} 0 1 = cc in absurd (omega arith)

deliver_means : (x j i : ℕ) → Names x → asked_by x ≡ step (deliver j i) → (j < 9) × (i < 9) × (x ≡ 200 + 10 * (j + 1) + (i + 1))
deliver_means x j i (a_plan a b q) e = let z : ◌≡◌ {A = ℕ} 0 1 = cc in absurd (omega arith)
deliver_means x j i (a_delivery a b c q) e =
    let s : (x - 200) / 10 - 1 ≡ j = cc in
    let r : x % 10 - 1 ≡ i = cc in
    (omega arith, omega arith, omega arith)
deliver_means x j i (nothing q) e = let z : ◌≡◌ {A = ℕ} 0 1 = cc in absurd (omega arith)

pub plan_number : (x i : ℕ) → (asked_by x ≡ step (plan i)) ↔ ((i < 9) × (x ≡ 101 + i))
plan_number x i = (plan_means x i (names x), λ h. ap asked_by h.1 ∙ plan_named i h.0)

pub deliver_number : (x j i : ℕ) → (asked_by x ≡ step (deliver j i)) ↔ ((j < 9) × (i < 9) × (x ≡ 200 + 10 * (j + 1) + (i + 1)))
deliver_number x j i = (deliver_means x j i (names x), λ h. ap asked_by h.2 ∙ deliver_named j i h.0 h.1)
