-- The set of the carriers that are heard, digit by digit.
use Prim.Native.Nat.{ℕ, zero, suc, ◌+◌, ◌*◌, ◌/◌, ◌%◌, ◌^◌, ◌≤◌, ◌<◌}
use native.Mathlib.Omega.{arith}
use mathlib.Core.Bool.{Bool, true, false, cond}
use mathlib.Core.List.{List, [], ◌∷◌}
use mathlib.Core.Path.{◌≡◌, refl, ◌∙◌, ap}
use lib.Dec.{eqb}
use lib.ListN.{length}
use lib.Pow.{pow_pos}
use Rattle.route.specs.Route.{Answer, View, unheard, heard}
use Rattle.bitrows.specs.Words.{digit}
use Rattle.bitrows.proofs.DigitLaws.{digit_zero}
use Rattle.blockers.specs.Blockers.{set_of}
use Rattle.blockers.specs.Claims.{views_of_part}
use Rattle.blockers.proofs.PartLaws.{Part}

double_half : (n : ℕ) → 2 * n / 2 ≡ n
double_half n = omega arith

more_half : (n : ℕ) → (2 * n + 1) / 2 ≡ n
more_half n = omega arith

double_even : (n : ℕ) → 2 * n % 2 ≡ 0
double_even n = omega arith

more_odd : (n : ℕ) → (2 * n + 1) % 2 ≡ 1
more_odd n = omega arith

-- The first digit, and those behind it.
first_digit_lem : (y : Bool) (x : Answer) (vs : List View) → digit (set_of (cond y (heard x) unheard ∷ vs)) 0 ≡ y
unfolding set_of digit
first_digit_lem true x vs = ap (λ (n : ℕ). eqb n 1) (more_odd (set_of vs))
first_digit_lem false x vs = ap (λ (n : ℕ). eqb n 1) (double_even (set_of vs))

next_digit : (y : Bool) (x : Answer) (vs : List View) (j : ℕ) → digit (set_of (cond y (heard x) unheard ∷ vs)) (suc j) ≡ digit (set_of vs) j
unfolding set_of digit
next_digit true x vs j = ap (λ (n : ℕ). digit n j) (more_half (set_of vs))
next_digit false x vs j = ap (λ (n : ℕ). digit n j) (double_half (set_of vs))

-- Digit j of the set of a part tells whether carrier j is in it.
pub set_digit : (part : Part) (xs : List Answer) (j : ℕ) → j < length xs → digit (set_of (views_of_part part xs)) j ≡ part j
unfolding views_of_part
set_digit part [] j l = absurd (omega arith)
set_digit part (x ∷ xs) zero l = first_digit_lem (part 0) x (views_of_part (λ j. part (suc j)) xs)
set_digit part (x ∷ xs) (suc j) l =
    next_digit (part 0) x (views_of_part (λ i. part (suc i)) xs) j ∙ set_digit (λ i. part (suc i)) xs j (omega arith)

-- There are no digits past the carriers.
pub set_beyond : (part : Part) (xs : List Answer) (j : ℕ) → length xs ≤ j → digit (set_of (views_of_part part xs)) j ≡ false
unfolding views_of_part set_of
set_beyond part [] j l = digit_zero j
set_beyond part (x ∷ xs) zero l = absurd (omega arith)
set_beyond part (x ∷ xs) (suc j) l =
    next_digit (part 0) x (views_of_part (λ i. part (suc i)) xs) j ∙ set_beyond (λ i. part (suc i)) xs j (omega arith)

-- The set of nobody.
pub set_nobody : (part : Part) (xs : List Answer) → ((j : ℕ) → j < length xs → part j ≡ false) → set_of (views_of_part part xs) ≡ 0
unfolding views_of_part set_of
set_nobody part [] h = refl
set_nobody part (x ∷ xs) h =
    let rest : set_of (views_of_part (λ i. part (suc i)) xs) ≡ 0 = set_nobody (λ i. part (suc i)) xs (λ j l. h (suc j) (omega arith)) in
    rw (h 0 (omega arith)) (omega (arith, rest))

-- A set of at most n carriers is below 2 ^ n.
pub set_below : (vs : List View) (n : ℕ) → length vs ≤ n → set_of vs < 2 ^ n
unfolding set_of
set_below [] n l = pow_pos n
set_below (v ∷ vs) zero l = absurd (omega arith)
set_below (unheard ∷ vs) (suc n) l = omega (arith, set_below vs n (omega arith))
set_below (heard x ∷ vs) (suc n) l = omega (arith, set_below vs n (omega arith))
