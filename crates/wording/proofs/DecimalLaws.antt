-- Laws of a number in decimal digits, and of counted bytes.
use Prim.Native.Nat.{ℕ, ◌+◌, ◌-◌, ◌≤◌}
use native.Mathlib.Omega.{arith}
use mathlib.Core.List.{List}
use mathlib.Core.Path.{◌≡◌, refl, sym, ◌∙◌, ap}
use lib.ListN.{length, take, drop, length-drop}
use lib.Seq.{take_all, length-take-le}
use Rattle.std.proofs.lemmas.Bool.{lt-ltb, le-ltb}
use Rattle.io.specs.Counts.{IsPrefixLen}
use Rattle.reporting.specs.Put.{PutAt}
use Rattle.wording.specs.Decimal.{decimal, five_digits, first_digit}

-- What a test of `<` answers.
pub ruleset tests_of_lt = (lt-ltb, le-ltb)

-- The digits that are written, put.
pub decimal_put : (n k : ℕ) (digits old new : List ℕ) (at next : ℕ) → digits ≡ five_digits n → k ≡ first_digit n
    → PutAt (take (5 - k) (drop k digits)) old at new next → PutAt (decimal n) old at new next
unfolding decimal five_digits
decimal_put n k digits old new at next e f p =
    let whole : take (5 - k) (drop k digits) ≡ drop k digits =
    take_all (5 - k) (drop k digits) (omega (arith, length-drop k digits, ap length e)) in
    let same : drop k digits ≡ decimal n = rw (e, f) refl in
    rw (whole ∙ same) at p

pub decimal_short : (n : ℕ) → length (decimal n) ≤ 5
unfolding decimal five_digits
decimal_short n = omega (arith, length-drop (first_digit n) (five_digits n))

pub decimal_low : (n : ℕ) (old new : List ℕ) (at next : ℕ) → PutAt (decimal n) old at new next → next ≤ at + 5
decimal_low n old new at next p = omega (arith, p.behind, decimal_short n)

-- A number that is at most a memory's length counts bytes in front of it.
pub counts_within : (n : ℕ) (xs : List ℕ) → n ≤ length xs → IsPrefixLen n xs
counts_within n xs l = (l, sym (length-take-le n xs l))
