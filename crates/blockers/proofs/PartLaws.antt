-- Views of a part of the carriers: all of them, one left out, a smaller part, and the part that is left by the procedure.
use Prim.Native.Nat.{ℕ, zero, suc, ◌<◌}
use native.Mathlib.Omega.{arith}
use mathlib.Core.Bool.{Bool, true, false, cond}
use mathlib.Core.List.Memᴰ
use mathlib.Core.List.{List, [], ◌∷◌, map, Memᴰ}
use mathlib.Core.Logic.{◌⊎◌, inl, inr, ⊎_elim}
use mathlib.Core.Path.{◌≡◌, refl, ap, ap₂}
use lib.ListN.{length}
use Rattle.laws.proofs.Tests.{true_false_absurd}
use Rattle.floor.specs.declared.Floor.{Floor}
use Rattle.route.specs.Route.{Answer, View, unheard, heard}
use Rattle.route.specs.Conflict.{ShowsNoRoute}
use Rattle.records.specs.Seen.{seen_as, seen_from, seen}
use Rattle.blockers.specs.Blockers.{views_without}
use Rattle.blockers.specs.Claims.{views_of_part}

-- A part of the carriers.
abbrev pub Part : Type 0
Part = ℕ → Bool

-- The part without the first carrier, as the others count it.
abbrev tail_part : Part → Part
tail_part part j = part (suc j)

-- All carriers are a part.
pub all_heard : (xs : List Answer) → map heard xs ≡ views_of_part (λ j. true) xs
unfolding views_of_part
all_heard [] = refl
all_heard (x ∷ xs) = ap (λ (vs : List View). heard x ∷ vs) (all_heard xs)

-- Parts that agree in the carriers that are there have the same views.
pub views_same : (part part' : Part) (xs : List Answer) → ((j : ℕ) → j < length xs → part j ≡ part' j) →
    views_of_part part xs ≡ views_of_part part' xs
unfolding views_of_part
views_same part part' [] h = refl
views_same part part' (x ∷ xs) h =
    ap₂ (λ (y : Bool) (vs : List View). cond y (heard x) unheard ∷ vs) (h 0 (omega arith))
    (views_same (tail_part part) (tail_part part') xs (λ j l. h (suc j) (omega arith)))

-- A part without carrier j.
unfoldable pub minus : Part → ℕ → Part
minus part zero zero = false
minus part zero (suc k) = part (suc k)
minus part (suc j) zero = part zero
minus part (suc j) (suc k) = minus (tail_part part) j k

pub minus_same : (part : Part) (j : ℕ) → minus part j j ≡ false
unfolding minus
minus_same part zero = refl
minus_same part (suc j) = minus_same (tail_part part) j

pub minus_less : (part : Part) (j k : ℕ) → minus part j k ≡ true → part k ≡ true
unfolding minus
minus_less part zero zero e = true_false_absurd e refl
minus_less part zero (suc k) e = e
minus_less part (suc j) zero e = e
minus_less part (suc j) (suc k) e = minus_less (tail_part part) j k e

-- A part of part' that lacks carrier j is a part of part' without j.
pub part_minus : (part part' : Part) (j : ℕ) → ((k : ℕ) → part k ≡ true → part' k ≡ true) → part j ≡ false → (k : ℕ) → part k ≡ true →
    minus part' j k ≡ true
unfolding minus
part_minus part part' zero h lacks zero e = true_false_absurd e lacks
part_minus part part' zero h lacks (suc k) e = h (suc k) e
part_minus part part' (suc j) h lacks zero e = h zero e
part_minus part part' (suc j) h lacks (suc k) e = part_minus (tail_part part) (tail_part part') j (λ i. h (suc i)) lacks k e

-- The views without that of carrier j are those of the part without it.
pub views_minus : (part : Part) (xs : List Answer) (j : ℕ) → views_without j (views_of_part part xs) ≡ views_of_part (minus part j) xs
unfolding views_of_part views_without minus
views_minus part [] j = refl
views_minus part (x ∷ xs) zero = refl
views_minus part (x ∷ xs) (suc j) = ap (λ (vs : List View). cond (part zero) (heard x) unheard ∷ vs) (views_minus (tail_part part) xs j)

-- A view of the smaller part shows nothing, or is one of the larger part.
head_view : (f : Floor) (i : ℕ) (v : View) (x : Answer) (y z : Bool) → (y ≡ true → z ≡ true) → v ≡ seen_as f i (cond y (heard x) unheard) →
    ShowsNoRoute v ⊎ (v ≡ seen_as f i (cond z (heard x) unheard))
unfolding ShowsNoRoute seen_as
head_view f i v x false z h e = inl (inl e)
head_view f i v x true false h e = true_false_absurd (h refl) refl
head_view f i v x true true h e = inr e

from_part : (f : Floor) (i : ℕ) (part part' : Part) (xs : List Answer) → ((j : ℕ) → part j ≡ true → part' j ≡ true) → (v : View) →
    Memᴰ v (seen_from f i (views_of_part part xs)) → ShowsNoRoute v ⊎ Memᴰ v (seen_from f i (views_of_part part' xs))
unfolding seen_from views_of_part
from_part f i part part' [] h v m = absurd (Memᴰ.not-nil m)
from_part f i part part' (x ∷ xs) h v m =
    ⊎_elim
    (λ (e : v ≡ seen_as f i (cond (part zero) (heard x) unheard)).
    ⊎_elim (λ (s : ShowsNoRoute v). inl s) (λ (e' : v ≡ seen_as f i (cond (part' zero) (heard x) unheard)). inr (Memᴰ.head e'))
    (head_view f i v x (part zero) (part' zero) (h zero) e))
    (λ (m' : Memᴰ v (seen_from f (suc i) (views_of_part (tail_part part) xs))).
    ⊎_elim (λ (s : ShowsNoRoute v). inl s)
    (λ (k : Memᴰ v (seen_from f (suc i) (views_of_part (tail_part part') xs))). inr (Memᴰ.tail k))
    (from_part f (suc i) (tail_part part) (tail_part part') xs (λ j. h (suc j)) v m'))
    (Memᴰ.cases_cons m)

pub seen_part : (f : Floor) (part part' : Part) (xs : List Answer) → ((j : ℕ) → part j ≡ true → part' j ≡ true) → (v : View) →
    Memᴰ v (seen f (views_of_part part xs)) → ShowsNoRoute v ⊎ Memᴰ v (seen f (views_of_part part' xs))
unfolding seen
seen_part f part part' xs h v m = from_part f 0 part part' xs h v m

-- Where the part is empty, no view shows anything.
from_nobody : (f : Floor) (i : ℕ) (part : Part) (xs : List Answer) → ((j : ℕ) → part j ≡ false) → (v : View) →
    Memᴰ v (seen_from f i (views_of_part part xs)) → ShowsNoRoute v
unfolding seen_from views_of_part seen_as ShowsNoRoute
from_nobody f i part [] h v m = absurd (Memᴰ.not-nil m)
from_nobody f i part (x ∷ xs) h v m =
    ⊎_elim (λ (e : v ≡ seen_as f i (cond (part zero) (heard x) unheard)). inl (rw (h zero) at e))
    (λ (m' : Memᴰ v (seen_from f (suc i) (views_of_part (tail_part part) xs))). from_nobody f (suc i) (tail_part part) xs
    (λ j. h (suc j)) v m')
    (Memᴰ.cases_cons m)

pub seen_nobody : (f : Floor) (part : Part) (xs : List Answer) → ((j : ℕ) → part j ≡ false) → (v : View) →
    Memᴰ v (seen f (views_of_part part xs)) → ShowsNoRoute v
unfolding seen
seen_nobody f part xs h v m = from_nobody f 0 part xs h v m
