-- Which order a number names, and what that order takes and remembers, a law a case of the code.
use Rattle.std.proofs.Common.{◌≡◌, ℕ, suc, ◌<◌, ◌≤◌, Bool, true, false, leb, refl, ◌∙◌, ⊎_elim, Ok, Err, Result, arith, eq-eqb, ne_eqb, le-leb, leb-true}
use borrow.Author.Tests.{lt-leb}
use Rattle.laws.proofs.Tests.{and_snd, lt_or_le}
use Rattle.laws.proofs.VerdictLaws.{given_value, given_refusal}
use Rattle.laws.specs.Verdict.{value, refusal, passed, refused, demand, ◌gives◌}
use Rattle.floor.specs.Checks.{within}
use Rattle.reference.specs.Quiescent.{ceiling}
use Rattle.machine.specs.Ceiling.{most_steps}
use Rattle.machine.proofs.CeilingLaws.{power_most}
use Rattle.orders.specs.Orders.{first, round, drawn}
use Rattle.floor.specs.declared.Reason.TheVariants.{NoOrder}
use Rattle.floor.specs.declared.Refusal.{Refusal}
use Rattle.floor.specs.Answers.{number_of, outcome_by}
use Rattle.machine.specs.Ceiling.{figure_of}
use Rattle.std.specs.Result.{result_unwrap_or}
use Rattle.trial.specs.declared.choice.Order.{Order}
use Rattle.trial.specs.declared.choice.Order.TheVariants.{First, Round, Drawn}
use Rattle.trial.specs.Entry.{order_by, order_meant, OrderAsked}

module _ (k : ℕ) where
  pub order_first : k ≡ 1 → order_by k ≡ first
  unfolding order_by
  order_first e = rw (eq-eqb k 1 e)

  pub order_round : k ≡ 2 → order_by k ≡ round
  unfolding order_by
  order_round e = rw (ne_eqb k 1 (λ h. omega arith), eq-eqb k 2 e)

  pub order_drawn : (k ≡ 1 → ⊥) → (k ≡ 2 → ⊥) → order_by k ≡ drawn
  unfolding order_by
  order_drawn h g = rw (ne_eqb k 1 h, ne_eqb k 2 g)

  -- The test of an order.
  pub known_is : 1 ≤ k → k ≤ 3 → passed ≡ demand (within 1 3 k) 11 0
  unfolding within demand
  known_is l h = rw (le-leb 1 k l, le-leb k 3 h)

  pub high_is : 1 ≤ k → 3 < k → refused 11 0 ≡ demand (within 1 3 k) 11 0
  unfolding within demand
  high_is l h = rw (le-leb 1 k l, lt-leb k 3 h)

  pub low_is : k < 1 → refused 11 0 ≡ demand (within 1 3 k) 11 0
  unfolding within demand
  low_is l = rw (lt-leb 1 k l)

-- The order that a number names, as the code answers it.
module _ (k : ℕ) where
  pub asked_first : k ≡ 1 → OrderAsked k (Ok First)
  unfolding OrderAsked order_meant outcome_by ◌gives◌
  asked_first e = rw (order_first k e, ← known_is k (omega arith) (omega arith)) refl

  pub asked_round : k ≡ 2 → OrderAsked k (Ok Round)
  unfolding OrderAsked order_meant outcome_by ◌gives◌
  asked_round e = rw (order_round k e, ← known_is k (omega arith) (omega arith)) refl

  pub asked_drawn : k ≡ 3 → OrderAsked k (Ok Drawn)
  unfolding OrderAsked order_meant outcome_by ◌gives◌
  asked_drawn e =
      rw (order_drawn k (λ h. omega arith) (λ h. omega arith), ← known_is k (omega arith) (omega arith)) refl

  pub asked_none : (k ≡ 1 → ⊥) → (k ≡ 2 → ⊥) → (k ≡ 3 → ⊥) → OrderAsked k (Err (record { reason = NoOrder; place = 0 }))
  unfolding OrderAsked outcome_by ◌gives◌
  asked_none a b c =
      ⊎_elim (λ (l : k < 1). rw (← low_is k l) refl) (λ (l : 1 ≤ k). rw (← high_is k l (omega arith)) refl) (lt_or_le k 1)

  -- What the code's answer tells.
  pub order_known : (x : Order) → OrderAsked k (Ok x) → (demand (within 1 3 k) 11 0 ≡ passed) × (order_meant x ≡ order_by k)
  unfolding OrderAsked outcome_by
  order_known x h = given_value (demand (within 1 3 k) 11 0) (order_by k) (order_meant x) h

  pub order_refused : (e : Refusal) → OrderAsked k (Err e) → demand (within 1 3 k) 11 0 ≡ refused (number_of e.reason) e.place
  unfolding OrderAsked outcome_by
  order_refused e h = given_refusal (demand (within 1 3 k) 11 0) (order_by k) (number_of e.reason) e.place h

-- The ceiling as the entry tells it.
module _ (n : ℕ) where
  most_within : 1 ≤ n → n ≤ 8 → most_steps n ≡ value (ceiling n)
  unfolding most_steps ◌gives◌ demand within
  most_within l h = rw (le-leb 1 n l, le-leb n 8 h)

  pub most_told : (t : ℕ) → value t ≡ most_steps n → (1 ≤ n → n ≤ 8 → t ≡ ceiling n) × (t ≤ 512)
  unfolding most_steps ◌gives◌ demand within ceiling
  most_told t e = go (within 1 8 n) refl e
    where
      go : (x : Bool) → within 1 8 n ≡ x → value t ≡ (demand x 2 5 gives ceiling n) → (1 ≤ n → n ≤ 8 → t ≡ ceiling n) × (t ≤ 512)
      go true w h =
          let same : t ≡ ceiling n = cc in
          let few : n ≤ 8 = leb-true n 8 (and_snd (leb 1 n) (leb n 8) w) in
          (λ l k. same, omega (arith, power_most (suc n) (omega arith)))
      go false w h = let z : ◌≡◌ {A = ℕ} 0 1 = cc in absurd (omega arith)

  pub most_refused : (k p : ℕ) → refusal k p ≡ most_steps n → (1 ≤ n → n ≤ 8 → 0 ≡ ceiling n) × (0 ≤ 512)
  most_refused k p e = ((λ l h. let z = e ∙ most_within l h in cc), omega arith)

pub most_or : (n : ℕ) (x : Result ℕ Refusal) → figure_of x ≡ most_steps n
    → (1 ≤ n → n ≤ 8 → result_unwrap_or x 0 ≡ ceiling n) × (result_unwrap_or x 0 ≤ 512)
unfolding outcome_by
most_or n (Ok t) e = most_told n t e
most_or n (Err r) e = most_refused n (number_of r.reason) r.place e
