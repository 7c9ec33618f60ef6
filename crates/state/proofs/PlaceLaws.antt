-- Numbers of pairs: the next, and the most.
use Prim.Native.Nat.{ℕ, suc, ◌+◌, ◌≤◌}
use native.Mathlib.Numerals.{add-one}
use mathlib.Core.Path.{◌≡◌, refl}
use Rattle.encoding.proofs.ExactLaws.{pairs_grow}
use Rattle.encoding.specs.Places.{pairs_before}

pub pairs_more : (k p : ℕ) → p ≡ pairs_before k → p + k ≡ pairs_before (k + 1)
unfolding pairs_before
pairs_more k p e = rw (add-one, e) refl

pub pairs_next : (i : ℕ) → pairs_before (suc i) ≡ pairs_before i + i
unfolding pairs_before
pairs_next i = refl

pub pairs_most : (n : ℕ) → n ≤ 8 → pairs_before n ≤ 28
unfolding pairs_before
pairs_most n l = pairs_grow 8 n l
