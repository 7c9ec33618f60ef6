-- Laws that the functions' answers take: a loop over beats, the numbers that are 0, and the test of a move.
use Prim.Native.Nat.{ℕ, suc, ◌+◌, ◌-◌, ◌/◌, ◌%◌, ◌≤◌, ◌<◌}
use native.Mathlib.Omega.{arith}
use native.Mathlib.Nat.{zero-add}
use mathlib.Core.Bool.{Bool, true, false, ◌&&◌, not}
use mathlib.Core.List.{List}
use mathlib.Core.Path.{◌≡◌, refl, sym, ap, ◌∙◌}
use Rattle.std.specs.Prelude.{Result, Ok, Err, ⊤}
use Rattle.std.specs.Result.{IsErrAnd}
use Rattle.std.proofs.lemmas.Result.{err_from_is_err_and}
use mathlib.Core.Logic.{◌⊎◌, inl, inr, ⊎_elim}
use Rattle.std.specs.Int.{abs_diff}
use Rattle.laws.proofs.Tests.{eq_or_ne, lt_or_le}
use lib.Dec.{eqb}
use lib.ListN.{get_or}
use borrow.Author.Rules.{rules}
use borrow.Author.Tests.{eq-eqb, ne_eqb}
use Rattle.laws.specs.Verdict.{Verdict, passed, refused, ◌then◌, demand_each}
use Rattle.laws.proofs.VerdictLaws.{each_none, each_more, each_stop, each_end, tests_go_on, tests_stop}
use Rattle.route.specs.Route.{cell_at}
use Rattle.route.specs.Moves.{neighbours, near}
use Rattle.legality.specs.Tests.{zero_at}
use Rattle.legality.specs.declared.Fault.{Fault}
use Rattle.legality.specs.Answers.{test_of}

-- Behind a test that found nothing, what the rest says, the whole says; the fault that a `?` hands on is what the whole says.
pub test_next : {u : ⊤} {y z z' : Verdict} → test_of (Ok u) ≡ z → y ≡ z' → y ≡ (z then z')
unfolding test_of ◌then◌
test_next h t = rw (← h) t

pub test_ends : (y : Result ⊤ Fault) (e : Fault) {z : Verdict} (z' : Verdict) → test_of (Err e) ≡ z → IsErrAnd y (λ d. d ≡ e)
    → test_of y ≡ (z then z')
unfolding test_of ◌then◌
test_ends y e z' h r = let p = err_from_is_err_and y r in rw (p.1, p.2, ← h)

-- What the answers of a chain of tests take.
pub ruleset test_chain = (test_next, test_ends)

-- The first beat of a loop that fails is the place.
pub beat_stops : (k : ℕ) (ok : ℕ → Bool) {x : Bool} (i p : ℕ) → demand_each k 0 ok i ≡ passed → x ≡ ok i → not x ≡ true → i < p →
    refused k i ≡ demand_each k 0 ok p
beat_stops k ok i p h e n l = ap (refused k) (sym (zero-add i)) ∙ tests_stop k 0 ok i p h e n l

-- What the answers of a loop over beats take.
pub ruleset beats = (rules, each_none, tests_go_on, beat_stops, each_end)

module _ (r : List ℕ) (from : ℕ) where
  -- Before the loop no number is passed.
  pub blank_none : demand_each 7 from (zero_at r from) (from - from) ≡ passed
  blank_none = let e : from - from ≡ 0 = omega arith in rw e (each_none 7 from (zero_at r from))

  module _ (t : ℕ) (after : from ≤ t) (h : demand_each 7 from (zero_at r from) (t - from) ≡ passed) where
    -- One more number that is 0.
    pub blank_on : get_or r t 0 ≡ 0 → demand_each 7 from (zero_at r from) (t + 1 - from) ≡ passed
    unfolding zero_at cell_at
    blank_on e =
        let next : t + 1 - from ≡ t - from + 1 = omega arith in
        let here : from + (t - from) ≡ t = omega arith in
        rw next (each_more 7 from _ (t - from) h (rw here (eq-eqb _ _ e)))

    -- The first that is not.
    pub blank_stops : (n : ℕ) → (get_or r t 0 ≡ 0 → ⊥) → t < n → refused 7 t ≡ demand_each 7 from (zero_at r from) (n - from)
    unfolding zero_at cell_at
    blank_stops n e l =
        let here : from + (t - from) ≡ t = omega arith in
        rw here at (sym (each_stop 7 from _ (t - from) (n - from) (omega arith) h (rw here (ne_eqb _ _ e))))

    -- Past the last.
    pub blank_end : (n : ℕ) → t ≤ n → n ≤ t → passed ≡ demand_each 7 from (zero_at r from) (n - from)
    blank_end n a b = let e : t ≡ n = omega arith in sym (rw e at h)

-- What the answers of such a loop take.
pub ruleset blanks = (rules, blank_none, blank_on, blank_stops, blank_end)

-- One number is the other plus 1, or it is not.
pub side_by_side : (k n : ℕ) → eqb (abs_diff k n) 1 ≡ neighbours k n
unfolding neighbours
side_by_side k n = told (eq_or_ne k (suc n)) (eq_or_ne n (suc k))
  where
    told : (k ≡ suc n) ⊎ (k ≡ suc n → ⊥) → (n ≡ suc k) ⊎ (n ≡ suc k → ⊥) → eqb (abs_diff k n) 1 ≡ neighbours k n
    told (inl e) y = rw (eq-eqb k (suc n) e) (eq-eqb (abs_diff k n) 1 (omega (arith, e)))
    told (inr a) (inl e) = rw (ne_eqb k (suc n) a, eq-eqb n (suc k) e) (eq-eqb (abs_diff k n) 1 (omega (arith, e)))
    told (inr a) (inr b) =
        rw (ne_eqb k (suc n) a, ne_eqb n (suc k) b)
        (ne_eqb (abs_diff k n) 1 (λ q. ⊎_elim (λ (l : n < k). a (omega (arith, q))) (λ (l : k ≤ n). b (omega (arith, q))) (lt_or_le n k)))

-- A stay; a move along a row; a move along a column, or neither.
module _ (w c d : ℕ) where
  pub near_stay : d ≡ c → true ≡ near w c d
  unfolding near
  near_stay e = rw (eq-eqb d c e) refl

  pub near_row : {x : Bool} → (d ≡ c → ⊥) → x ≡ (eqb (c / w) (d / w) && neighbours (c % w) (d % w)) → x ≡ true → true ≡ near w c d
  unfolding near
  near_row n e h = rw (ne_eqb d c n, ← e, h) refl

  pub near_column : {x y : Bool} → (d ≡ c → ⊥) → x ≡ (eqb (c / w) (d / w) && neighbours (c % w) (d % w)) → x ≡ false →
      y ≡ (eqb (c % w) (d % w) && neighbours (c / w) (d / w)) → y ≡ near w c d
  unfolding near
  near_column n e h s = rw (ne_eqb d c n, ← e, h) s
