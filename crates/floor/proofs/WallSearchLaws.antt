-- Walls that rise are strictly rising, and what a binary search among strictly rising numbers knows:
-- at its start, after each turn and at its end.
use Prim.Native.Nat.{ℕ, suc, zero, ◌≤◌, ◌<◌}
use native.Mathlib.Omega.{arith}
use native.Mathlib.Nat.{le_of_suc-le-suc, eq-or-lt_of_le}
use mathlib.Core.Path.{◌≡◌, refl, sym}
use mathlib.Core.Logic.{⊎_elim}
use mathlib.Core.List.{List}
use lib.ListN.{get_or}
use Rattle.std.specs.Prelude.{Result, Ok, Err, take, length, is_ok, MatchResult}
use Rattle.std.specs.List.Sorted.{IsBinarySearchResult}
use Rattle.std.proofs.lemmas.List.{length-take-le, get_or-take}
use Rattle.std.proofs.lemmas.List.Sorted.{searched}
use Rattle.std.specs.Ordering.{nat_cmp}
use Rattle.floor.specs.declared.Floor.{Floor}
use Rattle.laws.specs.Verdict.{passed, All}
use Rattle.floor.specs.Checks.{among, rising_of}
use Rattle.floor.specs.Accepted.{Rises, StrictlyRising}
use Rattle.laws.proofs.EachLaws.{each_passed}
use Rattle.floor.proofs.AmongLaws.{among_found, absent_all}
use Rattle.laws.proofs.Tests.{lt_or_le}
use Rattle.floor.proofs.CheckMeans.{rises_means}

-- Where each number is above the one before it, each is above all before it.
rises_strictly : (xs : List ℕ) (n : ℕ) → All (Rises xs) n → StrictlyRising xs n
rises_strictly xs n r i zero l b = absurd (omega arith)
rises_strictly xs n r i (suc j) l b =
    let step = r (suc j) b j refl in
    ⊎_elim
    (λ (e : i ≡ j). rw e step)
    (λ (k : i < j). omega (arith, step, rises_strictly xs n r i j k (omega arith)))
    (eq-or-lt_of_le (le_of_suc-le-suc l))

-- Walls that pass check 4 are strictly rising.
pub passed_rising : (f : Floor) (ws : List ℕ) → rising_of f ws ≡ passed → StrictlyRising ws f.walls
unfolding rising_of
passed_rising f ws h = rises_strictly ws f.walls (each_passed 4 _ _ _ (rises_means ws) _ h)

-- The first k numbers of a list that rise strictly rise.
rising_taken : (ws : List ℕ) (k : ℕ) → StrictlyRising ws k → (i j : ℕ) → i ≤ j → j < k → get_or (take k ws) i 0 ≤ get_or (take k ws) j 0
rising_taken ws k s i j a l =
    let e = get_or-take k ws i 0 (omega (arith, a, l)) in
    let d = get_or-take k ws j 0 l in
    rw (e, d) (⊎_elim (λ (q : i ≡ j). rw q (omega arith)) (λ (q : i < j). omega (arith, s i j q l)) (eq-or-lt_of_le a))

-- What is found among the first k numbers is among them, and what is not is between two that stand side by side.
search_found : (ws : List ℕ) (k c : ℕ) (r : Result ℕ ℕ) → length (take k ws) ≡ k →
    MatchResult r (λ i. (i < length (take k ws)) × (get_or (take k ws) i 0 ≡ c))
    (λ i. (i ≤ length (take k ws)) × ((j : ℕ) → j < i → get_or (take k ws) j 0 < c)
    × ((j : ℕ) → i ≤ j → j < length (take k ws) → c < get_or (take k ws) j 0)) → is_ok r ≡ among ws k c
search_found ws k c (Ok i) long b =
    let l = rw long at b.0 in
    sym (among_found ws c i k l (rw (get_or-take k ws i 0 l) at b.1))
search_found ws k c (Err i) long b =
    sym (absent_all ws c k (λ j l e.
    ⊎_elim
    (λ (q : j < i). omega (arith, rw (get_or-take k ws j 0 l) at (b.1 j q), e))
    (λ (q : i ≤ j). omega (arith, rw (get_or-take k ws j 0 l) at (b.2 j q (rw long l)), e))
    (lt_or_le j i)))

-- What the library's search says of c in the first k numbers, which rise: it is among them, or is not.
pub search_says : (ws : List ℕ) (k c : ℕ) (r : Result ℕ ℕ) → k ≤ length ws → StrictlyRising ws k →
    IsBinarySearchResult (λ (y : ℕ). nat_cmp y c) (take k ws) r → is_ok r ≡ among ws k c
search_says ws k c r l s b =
    let long : length (take k ws) ≡ k = length-take-le k ws l in
    let rise : (i j : ℕ) → i ≤ j → j < length (take k ws) → get_or (take k ws) i 0 ≤ get_or (take k ws) j 0
    = λ i j a d. rising_taken ws k s i j a (rw long at d) in
    search_found ws k c r long (searched (take k ws) c r b rise)
