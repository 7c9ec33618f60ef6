-- The loop that looks for the first record without a route.
use Prim.Native.Nat.{ℕ, suc, ◌+◌, ◌*◌, ◌-◌, ◌≤◌, ◌<◌}
use native.Mathlib.Omega.{arith}
use mathlib.Core.Path.{◌≡◌, sym, ◌∙◌, ap}
use mathlib.Core.List.{List}
use borrow.Author.Rules.{rules}
use borrow.Author.Tests.{eq-eqb, ne_eqb}
use lib.ListN.{get_or}
use Rattle.planner.specs.Records.{first_from}

module _ (m : List ℕ) (n : ℕ) where
  -- Before the loop no record is passed.
  pub first_none : first_from m 0 n ≡ first_from m 0 (n - 0)
  first_none = ap (first_from m 0) (omega arith)

  module _ (i : ℕ) (h : first_from m 0 n ≡ first_from m i (n - i)) where
    -- A record with a route is passed.
    pub first_more : get_or m (65 * i) 0 ≡ 2 → i < n → first_from m 0 n ≡ first_from m (i + 1) (n - (i + 1))
    unfolding first_from
    first_more e l = let s : n - i ≡ suc (n - (i + 1)) = omega arith in h ∙ rw (s, eq-eqb _ 2 e)

    -- The first record without one is the answer.
    pub first_stop : (get_or m (65 * i) 0 ≡ 2 → ⊥) → i < n → i + 1 ≡ first_from m 0 n
    unfolding first_from
    first_stop e l = let s : n - i ≡ suc (n - (i + 1)) = omega arith in sym (h ∙ rw (s, ne_eqb _ 2 e))

    -- Past the last record there is none.
    pub first_end : n ≤ i → 0 ≡ first_from m 0 n
    unfolding first_from
    first_end l = let s : n - i ≡ 0 = omega arith in sym (h ∙ rw s)

-- What the answers of such a loop take.
pub ruleset firsts = (rules, first_none, first_more, first_stop, first_end)
