-- Numbers stored one after the other, and one more step counted.
use Prim.Native.Nat.{ℕ, ◌+◌, ◌≤◌, ◌<◌}
use native.Mathlib.Omega.{arith}
use mathlib.Core.Path.{◌≡◌, refl}
use mathlib.Core.List.{List, [], ◌∷◌}
use lib.ListN.{length, get_or, set, length-set}
use borrow.Author.Tests.{lt-ltb, le-ltb}
use borrow.Author.Rules.{rules}
use Rattle.laws.specs.Memory.{put}
use Rattle.laws.proofs.PutLaws.{put_one, put_next}
use Rattle.encoding.specs.InnerSteps.{ticked}

-- Two numbers, one behind the other.
pub put_two : (m : List ℕ) (at next a b : ℕ) → at + 1 ≡ next → next < length m → set (set m at a) next b ≡ put m at (a ∷ (b ∷ []))
put_two m at next a b e l =
    put_next m (set m at a) (set (set m at a) next b) (a ∷ []) (b ∷ []) at next (put_one m at a (omega arith))
    (put_one (set m at a) next b (omega (arith, length-set m at a))) e (omega arith)

-- Two numbers and a block behind them.
pub put_three : (m m' xs : List ℕ) (at next last x y : ℕ) → m' ≡ put (set (set m at x) next y) last xs → at + 1 ≡ next → next + 1 ≡ last →
    last + length xs ≤ length m → m' ≡ put m at (x ∷ (y ∷ xs))
put_three m m' xs at next last x y e one two l =
    put_next m (set (set m at x) next y) m' (x ∷ (y ∷ [])) xs at last (put_two m at next x y one (omega arith)) e (omega arith) l

module _ (m : List ℕ) where
  pub tick_rest : 2 ≤ length m → get_or m 1 0 < 999 → set m 1 (get_or m 1 0 + 1) ≡ ticked m
  unfolding ticked
  tick_rest long l = rw (lt-ltb (get_or m 1 0) 999 l) (put_one m 1 (get_or m 1 0 + 1) (omega arith))

  pub tick_thousands : 2 ≤ length m → 999 ≤ get_or m 1 0 → get_or m 0 0 < 999 → set (set m 0 (get_or m 0 0 + 1)) 1 0 ≡ ticked m
  unfolding ticked
  tick_thousands long h l =
      rw (le-ltb (get_or m 1 0) 999 h, lt-ltb (get_or m 0 0) 999 l) (put_two m 0 1 (get_or m 0 0 + 1) 0 (omega arith) (omega arith))

  pub tick_full : 999 ≤ get_or m 1 0 → 999 ≤ get_or m 0 0 → m ≡ ticked m
  unfolding ticked
  tick_full h k = rw (le-ltb (get_or m 1 0) 999 h, le-ltb (get_or m 0 0) 999 k) refl

pub ruleset tick_cases = (tick_rest, tick_thousands, tick_full, rules)
