-- The plan carrier by carrier.
use Prim.Native.Nat.{ℕ, zero, suc, ◌≤◌, ◌<◌}
use native.Mathlib.Omega.{arith}
use native.Mathlib.Decide.{dec_le}
use mathlib.Core.Path.{◌≡◌, refl, sym, ◌∙◌, ap, ap₂}
use mathlib.Core.List.{List, [], ◌∷◌, ◌++◌, map}
use borrow.Author.Count.{below_more}
use lib.ListN.{length, get_or, take, get_or-append}
use lib.Seq.{get_or_at, take-append-le, take_all, take-suc}
use Rattle.route.specs.Route.{Answer, none, View, heard}
use Rattle.route.specs.Sequential.{sequential}
use Rattle.planner.specs.Claims.{answer_at}
use Rattle.planner.proofs.FailingLaws.{plan_count}

module _ (respond : ℕ → List View → Answer) where
  plan_all : (n : ℕ) → take n (sequential respond n) ≡ sequential respond n
  plan_all n = take_all n (sequential respond n) (omega (arith, plan_count respond n))

  shorter : (n k : ℕ) → k ≤ suc n → Dec (k ≤ n) → (k ≤ n → take k (sequential respond n) ≡ sequential respond k)
      → take k (sequential respond (suc n)) ≡ sequential respond k
  unfolding sequential
  shorter n k l (yes h) p = take-append-le k (sequential respond n) _ (rw (plan_count respond n) h) ∙ p h
  shorter n k l (no h) p =
      let e : k ≡ suc n = omega arith in
      rw e (plan_all (suc n))

  -- The answers of the first k carriers are the first k answers.
  pub plan_prefix : (n k : ℕ) → k ≤ n → take k (sequential respond n) ≡ sequential respond k
  plan_prefix zero k l =
      let e : k ≡ 0 = omega arith in
      rw e (plan_all 0)
  plan_prefix (suc n) k l =
      shorter n k l (dec_le k n) (λ h. plan_prefix n k h)

  -- Each carrier responds to the answers above it.
  pub plan_answer : (n k : ℕ) → k < n → answer_at (sequential respond n) k ≡ respond k (map heard (sequential respond k))
  unfolding sequential answer_at
  plan_answer zero k l = absurd (omega arith)
  plan_answer (suc n) k l =
      below_more (λ (j : ℕ). get_or (sequential respond n ++ (respond n (map heard (sequential respond n)) ∷ [])) j none ≡ respond j
      (map heard (sequential respond j))) n
      (λ j h. get_or-append (sequential respond n) _ none j (rw (plan_count respond n) h) ∙ plan_answer n j h)
      (get_or_at (sequential respond n) _ [] none n (plan_count respond n))
      k (omega arith)

  -- Answers that are each the response to those above them are the plan, one after the other.
  module _ (n : ℕ) (xs : List Answer) (long : length xs ≡ n)
      (each : (k : ℕ) → k < n → answer_at xs k ≡ respond k (map heard (take k xs))) where
    first_are : (k : ℕ) → k ≤ n → take k xs ≡ sequential respond k
    unfolding sequential answer_at
    first_are zero l = refl
    first_are (suc k) l =
        let front = first_are k (omega arith) in
        take-suc xs k none (omega arith)
        ∙ ap₂ (λ (ys : List Answer) (x : Answer). ys ++ (x ∷ [])) front
        (each k (omega arith) ∙ ap (λ (ys : List Answer). respond k (map heard ys)) front)

    pub plan_only : xs ≡ sequential respond n
    plan_only = sym (take_all n xs (omega arith)) ∙ first_are n (omega arith)
