-- Laws of verdicts: how one check follows another, and how a loop over items meets `demand_each`.
use Prim.Native.Nat.{ℕ, suc, zero, ◌+◌, ◌-◌, ◌≤◌, ◌<◌}
use native.Mathlib.Omega.{arith}
use native.Mathlib.Numerals.{add-one}
use native.Mathlib.Nat.{zero-add, suc-add}
use mathlib.Core.Path.{◌≡◌, refl, sym, ◌∙◌, ap}
use mathlib.Core.Bool.{Bool, true, false, not, true≢false}
use borrow.Author.Count.{below_more}
use borrow.Author.Rules.{rules}
use mathlib.Core.Logic.{◌⊎◌, ⊎_elim, inl, inr}
use Rattle.laws.proofs.CodeTests.{code_holds, code_fails, decides}
use Rattle.laws.specs.Verdict.{Verdict, passed, refused, ◌then◌, demand, in_turn, demand_each, passes, Outcome, value, refusal, ◌gives◌}
use Rattle.laws.specs.Verdict.{◌then_answers◌, when_passed}

-- Behind a passed check the next one decides.
pub then_passed : {x y : Verdict} → x ≡ passed → (x then y) ≡ y
unfolding ◌then◌
then_passed h = rw h

-- The Bool of a verdict says whether it passed.
pub passes_says : (x : Verdict) → passes x ≡ true → x ≡ passed
unfolding passes
passes_says passed h = refl
passes_says (refused k p) h = absurd (true≢false (sym h))

-- A refusal ends the checks.
pub then_refused : {x : Verdict} {k p : ℕ} (y : Verdict) → x ≡ refused k p → (x then y) ≡ refused k p
unfolding ◌then◌
then_refused y h = rw h

-- What is answered, and what is stored, where the checks find nothing and where they refuse.
pub answers_passed : {A : Type 0} {x : Verdict} {y : Outcome A} → x ≡ passed → (x then_answers y) ≡ y
unfolding ◌then_answers◌
answers_passed h = rw h

pub answers_refused : {A : Type 0} {x : Verdict} {k p : ℕ} (y : Outcome A) → x ≡ refused k p → (x then_answers y) ≡ refusal k p
unfolding ◌then_answers◌
answers_refused y h = rw h

pub gives_passed : {A : Type 0} {x : Verdict} {y : A} → x ≡ passed → (x gives y) ≡ value y
unfolding ◌gives◌
gives_passed h = rw h

pub gives_refused : {A : Type 0} {x : Verdict} {k p : ℕ} (y : A) → x ≡ refused k p → (x gives y) ≡ refusal k p
unfolding ◌gives◌
gives_refused y h = rw h

-- A value that checks give is the one behind them, which they let through; a refusal is theirs.
pub given_value : {A : Type 0} (x : Verdict) (y y' : A) → ◌≡◌ {A = Outcome A} (value y') (x gives y) → (x ≡ passed) × (y' ≡ y)
unfolding ◌gives◌
given_value passed y y' e = (refl, (cc))
given_value (refused k p) y y' e = absurd (let z : ◌≡◌ {A = ℕ} 0 1 = cc in omega arith)

pub given_refusal : {A : Type 0} (x : Verdict) (y : A) (k p : ℕ) → ◌≡◌ {A = Outcome A} (refusal k p) (x gives y) → x ≡ refused k p
unfolding ◌gives◌
given_refusal passed y k p e = absurd (let z : ◌≡◌ {A = ℕ} 0 1 = cc in omega arith)
given_refusal (refused k' p') y k p e = (cc)

pub when_passed_lem : {A : Type 0} {x : Verdict} {new : A} (old : A) → x ≡ passed → when_passed x new old ≡ new
unfolding when_passed
when_passed_lem old h = rw h

pub when_refused : {A : Type 0} {x : Verdict} {old : A} {k p : ℕ} (new : A) → x ≡ refused k p → when_passed x new old ≡ old
unfolding when_passed
when_refused new h = rw h

-- The same under the same verdict, where it matters.
pub gives_same : {A : Type 0} (x : Verdict) (y z : A) → (x ≡ passed → y ≡ z) → ◌≡◌ {A = Outcome A} (x gives y) (x gives z)
unfolding ◌gives◌
gives_same passed y z h = ap value (h refl)
gives_same (refused k p) y z h = refl

pub when_same : {A : Type 0} (x : Verdict) (y z old : A) → (x ≡ passed → y ≡ z) → when_passed x y old ≡ when_passed x z old
unfolding when_passed
when_same passed y z old h = h refl
when_same (refused k p) y z old h = refl

-- A refusal is no pass.
pub refused_not_passed : {k p : ℕ} → refused k p ≡ passed → ⊥
refused_not_passed h = let z : ◌≡◌ {A = ℕ} 0 1 = cc in omega arith

-- Two refusals that are the same have one number and one place.
pub refused_same : {k k' p p' : ℕ} → refused k p ≡ refused k' p' → (k ≡ k') × (p ≡ p')
refused_same e = ((cc), (cc))

-- A chain passes only if each of its checks does.
pub then_both : (x y : Verdict) → (x then y) ≡ passed → (x ≡ passed) × (y ≡ passed)
unfolding ◌then◌
then_both passed y h = (refl, h)
then_both (refused k p) y h = absurd (refused_not_passed h)

-- A demand passes only if its test holds.
pub demand_holds : (x : Bool) (k p : ℕ) → demand x k p ≡ passed → x ≡ true
unfolding demand
demand_holds true k p h = refl
demand_holds false k p h = absurd (refused_not_passed h)

-- A chain refuses where its first check refuses, or passes and the rest refuses.
pub then_cases : (x y : Verdict) (k p : ℕ) → (x then y) ≡ refused k p → (x ≡ refused k p) ⊎ ((x ≡ passed) × (y ≡ refused k p))
unfolding ◌then◌
then_cases passed y k p h = inr (refl, h)
then_cases (refused k' p') y k p h = inl h

-- What follows from the refusal of a chain, by the two ways to it.
pub refused_by : {C : Type 0} {x y : Verdict} {k p : ℕ} → (x then y) ≡ refused k p → (x ≡ refused k p → C)
    → (x ≡ passed → y ≡ refused k p → C) → C
refused_by {x} {y} {k} {p} h f g = ⊎_elim f (λ e. g e.0 e.1) (then_cases x y k p h)

-- A demand refuses where its test fails, with its own number and place.
pub demand_cases : (x : Bool) (k p k' p' : ℕ) → demand x k p ≡ refused k' p' → (x ≡ false) × (k' ≡ k) × (p' ≡ p)
unfolding demand
demand_cases true k p k' p' h = absurd (refused_not_passed (sym h))
demand_cases false k p k' p' h = (refl, (cc), (cc))

-- Checks may be grouped either way.
pub then_assoc : (x y z : Verdict) → ((x then y) then z) ≡ (x then (y then z))
unfolding ◌then◌
then_assoc passed y z = refl
then_assoc (refused k p) y z = refl

module _ (check : ℕ → Verdict) where
  -- No check: nothing to refuse.
  pub turn_none : in_turn check 0 ≡ passed
  unfolding in_turn
  turn_none = refl

  -- One more check that passes.
  pub turn_more : (i : ℕ) → in_turn check i ≡ passed → check i ≡ passed → in_turn check (i + 1) ≡ passed
  unfolding in_turn ◌then◌
  turn_more i h t = rw (add-one, h, t)

  -- One more check that refuses.
  turn_fails : (i k p : ℕ) → in_turn check i ≡ passed → check i ≡ refused k p → in_turn check (suc i) ≡ refused k p
  unfolding in_turn ◌then◌
  turn_fails i k p h t = rw (h, t)

  -- A refusal among the first i checks is the refusal of all.
  turn_kept : (i d k p : ℕ) → in_turn check i ≡ refused k p → in_turn check (d + i) ≡ refused k p
  unfolding in_turn ◌then◌
  turn_kept i zero k p h = rw zero-add h
  turn_kept i (suc d) k p h = rw (suc-add, turn_kept i d k p h)

  -- The first check that refuses is the refusal.
  pub turn_stop : (i n k p : ℕ) → i < n → in_turn check i ≡ passed → check i ≡ refused k p → in_turn check n ≡ refused k p
  turn_stop i n k p l h t =
      let e : (n - suc i) + suc i ≡ n = omega arith in
      rw e at (turn_kept (suc i) (n - suc i) k p (turn_fails i k p h t))

  -- The loop's end: all k checks pass.
  pub turn_end : (i k : ℕ) → i ≤ k → k ≤ i → in_turn check i ≡ passed → passed ≡ in_turn check k
  turn_end i k a b h =
      let e : i ≡ k = omega arith in
      sym (rw e at h)

  -- Each check passes where all do.
  pub turn_passed : (k : ℕ) → in_turn check k ≡ passed → (i : ℕ) → i < k → check i ≡ passed
  unfolding in_turn
  turn_passed zero h i l = absurd (omega arith)
  turn_passed (suc k) h i l =
      let b = then_both (in_turn check k) (check k) h in
      below_more (λ (j : ℕ). check j ≡ passed) k (turn_passed k b.0) b.1 i (omega arith)

  -- All pass where each does.
  pub turn_passes : (k : ℕ) → ((i : ℕ) → i < k → check i ≡ passed) → in_turn check k ≡ passed
  unfolding in_turn ◌then◌
  turn_passes zero a = refl
  turn_passes (suc k) a = rw (turn_passes k (λ i l. a i (omega arith)), a k (omega arith))

-- The check of one item.
pub demand_passes : {x : Bool} (k p : ℕ) → x ≡ true → demand x k p ≡ passed
unfolding demand
demand_passes k p h = rw h

pub demand_refuses : {x : Bool} (k p : ℕ) → x ≡ false → demand x k p ≡ refused k p
unfolding demand
demand_refuses k p h = rw h

-- Tests that the code makes one by one, y being the answer that it returns: past one that holds the rest answers, and one that fails
-- is refused.
module _ {x : Bool} (k p : ℕ) where
  pub demand_on : {y z : Verdict} → x ≡ true → y ≡ z → y ≡ (demand x k p then z)
  unfolding demand ◌then◌
  demand_on h e = rw h e

  pub demand_ends : {y : Verdict} (z : Verdict) → x ≡ false → y ≡ refused k p → y ≡ (demand x k p then z)
  unfolding demand ◌then◌
  demand_ends z h e = rw h e

  pub demand_fails : {y : Verdict} → false ≡ x → y ≡ refused k p → y ≡ demand x k p
  demand_fails h e = e ∙ sym (demand_refuses k p (sym h))

  pub demand_last : true ≡ x → passed ≡ demand x k p
  demand_last h = sym (demand_passes k p (sym h))

-- What the answers of such a function take.
pub ruleset demands = (demand_on, demand_ends, demand_last, demand_fails, decides)

module _ (k p : ℕ) (ok : ℕ → Bool) where
  -- No item: nothing to refuse.
  pub each_none : demand_each k p ok 0 ≡ passed
  unfolding demand_each
  each_none = turn_none _

  -- One more item that passes.
  pub each_more : (i : ℕ) → demand_each k p ok i ≡ passed → ok i ≡ true → demand_each k p ok (i + 1) ≡ passed
  unfolding demand_each
  each_more i h t = turn_more _ i h (demand_passes k (p + i) t)

  -- The first item that fails is the refusal.
  pub each_stop : (i n : ℕ) → i < n → demand_each k p ok i ≡ passed → ok i ≡ false → demand_each k p ok n ≡ refused k (p + i)
  unfolding demand_each
  each_stop i n l h t = turn_stop _ i n k (p + i) l h (demand_refuses k (p + i) t)

  -- The loop's end: all n items pass.
  pub each_end : (i n : ℕ) → i ≤ n → n ≤ i → demand_each k p ok i ≡ passed → passed ≡ demand_each k p ok n
  unfolding demand_each
  each_end i n a b h = turn_end _ i n a b h

  -- A loop that tests the items one by one, x being what the code answers of item i: one more that passes, and the first that fails.
  pub tests_go_on : {x : Bool} (i : ℕ) → demand_each k p ok i ≡ passed → x ≡ ok i → not x ≡ false → demand_each k p ok (i + 1) ≡ passed
  tests_go_on i h e n = each_more i h (code_holds e n)

  pub tests_stop : {x : Bool} (i j : ℕ) → demand_each k p ok i ≡ passed → x ≡ ok i → not x ≡ true → i < j →
      refused k (p + i) ≡ demand_each k p ok j
  tests_stop i j h e n l = sym (each_stop i j l h (code_fails e n))

-- What such a loop's answers take.
pub ruleset tests = (rules, each_none, tests_go_on, tests_stop, each_end)

-- A check over items depends on its tests there only.
pub demand_same : (k p : ℕ) (ok also : ℕ → Bool) (n : ℕ) → ((i : ℕ) → i < n → ok i ≡ also i) → demand_each k p ok n ≡ demand_each k p also n
unfolding demand_each in_turn
demand_same k p ok also zero h = refl
demand_same k p ok also (suc n) h = rw (demand_same k p ok also n (λ i l. h i (omega arith)), h n (omega arith))
