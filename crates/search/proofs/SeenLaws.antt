-- What a heard none keeps shut: a view as it is seen, one by one, and the cell at which a carrier without a route stays.
use Prim.Native.Nat.{ℕ, zero, suc, ◌+◌, ◌-◌, ◌≤◌, ◌<◌}
use native.Mathlib.Omega.{arith}
use native.Mathlib.Nat.{add-zero}
use mathlib.Core.List.{List, [], ◌∷◌, ◌++◌, Memᴰ}
use mathlib.Core.Logic.{inl}
use mathlib.Core.Path.{◌≡◌, refl, sym, ◌∙◌, ap, ap₂}
use lib.ListN.{length, get_or, replicate, length-replicate, get_or-replicate, get_or-append}
use Rattle.floor.specs.declared.Floor.{Floor}
use Rattle.floor.specs.Checks.{start_of}
use Rattle.route.specs.Route.{cell_at, Answer, none, route, View, unheard, heard, Task}
use Rattle.route.specs.Conflict.{ShowsNoRoute}
use Rattle.route.specs.Search.{best}
use Rattle.route.proofs.Theorems.{theorems}
use Rattle.records.specs.Seen.{parked, seen_as, seen_from, seen}

-- A carrier that stays is in its start at every beat.
parked_cell : (f : Floor) (j t : ℕ) → t ≤ f.horizon → cell_at (parked f j) t ≡ start_of f j
unfolding parked cell_at
parked_cell f j t l =
    get_or-append (replicate (f.horizon + 1) (start_of f j)) (replicate (63 - f.horizon) 0) 0 t
    (omega (arith, length-replicate {A = ℕ} (f.horizon + 1) (start_of f j)))
    ∙ get_or-replicate (f.horizon + 1) t (start_of f j) 0 (omega arith)

-- View j of a list as it is seen.
from_view : (f : Floor) (k j : ℕ) (vs : List View) → get_or (seen_from f k vs) j unheard ≡ seen_as f (k + j) (get_or vs j unheard)
unfolding seen_from seen_as
from_view f k j [] = refl
from_view f k zero (v ∷ vs) = rw add-zero refl
from_view f k (suc j) (v ∷ vs) =
    let place : suc k + j ≡ k + suc j = omega arith in
    from_view f (suc k) j vs ∙ ap (λ (i : ℕ). seen_as f i (get_or vs j unheard)) place

first_view : (f : Floor) (vs : List View) (j : ℕ) → get_or (seen f vs) j unheard ≡ seen_as f j (get_or vs j unheard)
unfolding seen
first_view f vs j =
    let place : 0 + j ≡ j = omega arith in
    from_view f 0 j vs ∙ ap (λ (i : ℕ). seen_as f i (get_or vs j unheard)) place

none_view : (f : Floor) (vs : List View) (j : ℕ) → get_or vs j unheard ≡ heard none → get_or (seen f vs) j unheard ≡ heard (route (parked f j))
unfolding seen_as
none_view f vs j e = first_view f vs j ∙ ap (seen_as f j) e

route_view : (f : Floor) (vs : List View) (j : ℕ) (r : List ℕ) → get_or vs j unheard ≡ heard (route r) →
    get_or (seen f vs) j unheard ≡ heard (route r)
unfolding seen_as
route_view f vs j r e = first_view f vs j ∙ ap (seen_as f j) e

among : (vs : List View) (j : ℕ) (x : Answer) → get_or vs j unheard ≡ heard x → Memᴰ (heard x) vs
among [] j x e = absurd (let z : ◌≡◌ {A = ℕ} 0 1 = cc in omega arith)
among (v ∷ vs) zero x e = Memᴰ.head (sym e)
among (v ∷ vs) (suc j) x e = Memᴰ.tail (among vs j x e)

-- A heard none is among the views as the route that stays, a heard route as it is.
pub none_among : (f : Floor) (vs : List View) (j : ℕ) → get_or vs j unheard ≡ heard none →
    Memᴰ (heard (route (parked f j))) (seen f vs)
none_among f vs j e = among (seen f vs) j (route (parked f j)) (none_view f vs j e)

pub route_among : (f : Floor) (vs : List View) (j : ℕ) (r : List ℕ) → get_or vs j unheard ≡ heard (route r) →
    Memᴰ (heard (route r)) (seen f vs)
route_among f vs j r e = among (seen f vs) j (route r) (route_view f vs j r e)

-- Where view j is a heard none, the best route is at no beat in j's start.
pub kept_off : (f : Floor) (task : Task) (vs : List View) (j t : ℕ) (r : List ℕ) → task.horizon ≡ f.horizon → f.horizon ≤ 63 →
    get_or vs j unheard ≡ heard none → best task (seen f vs) ≡ route r → t ≤ f.horizon → cell_at r t ≡ start_of f j → ⊥
kept_off f task vs j t r h short e b l q =
    theorems.dock_occupied task (seen f vs) r (parked f j) 0 t (omega arith) (none_among f vs j e)
    (record { within = omega arith; held = λ u low most. parked_cell f j u (omega arith) ∙ sym last }) b (omega arith) (omega arith)
    (q ∙ sym last)
  where
    last : cell_at (parked f j) task.horizon ≡ start_of f j
    last = parked_cell f j task.horizon (omega arith)

-- Where no view is a heard none, views are seen as they are.
plain_as : (f : Floor) (j : ℕ) (v : View) → (v ≡ heard none → ⊥) → seen_as f j v ≡ v
unfolding seen_as
plain_as f j unheard h = refl
plain_as f j (heard none) h = absurd (h refl)
plain_as f j (heard (route r)) h = refl

plain_from : (f : Floor) (k : ℕ) (vs : List View) → ((j : ℕ) → j < length vs → get_or vs j unheard ≡ heard none → ⊥) → seen_from f k vs ≡ vs
unfolding seen_from
plain_from f k [] h = refl
plain_from f k (v ∷ vs) h =
    ap₂ (λ (v : View) (vs : List View). v ∷ vs) (plain_as f k v (h 0 (omega arith)))
    (plain_from f (suc k) vs (λ j l. h (suc j) (omega arith)))

pub plain_seen : (f : Floor) (vs : List View) → ((j : ℕ) → j < length vs → get_or vs j unheard ≡ heard none → ⊥) → seen f vs ≡ vs
unfolding seen
plain_seen f vs h = plain_from f 0 vs h

-- Not heard is seen as not heard, and may be left out.
from_apart : (f : Floor) (k : ℕ) (vs vs' : List View) → seen_from f k (vs ++ vs') ≡ seen_from f k vs ++ seen_from f (k + length vs) vs'
unfolding seen_from
from_apart f k [] vs' = rw add-zero refl
from_apart f k (v ∷ vs) vs' =
    let place : suc k + length vs ≡ k + suc (length vs) = omega arith in
    ap (λ (vs : List View). seen_as f k v ∷ vs)
    (from_apart f (suc k) vs vs' ∙ ap (λ (i : ℕ). seen_from f (suc k) vs ++ seen_from f i vs') place)

unheard_apart : (f : Floor) (vs vs' : List View) →
    seen f (vs ++ (unheard ∷ vs')) ≡ seen f vs ++ (unheard ∷ seen_from f (suc (length vs)) vs')
unfolding seen seen_from seen_as
unheard_apart f vs vs' = from_apart f 0 vs (unheard ∷ vs') ∙ ap (λ (k : ℕ). seen_from f 0 vs ++ seen_from f k (unheard ∷ vs')) (omega arith)

unheard_silent : ShowsNoRoute unheard
unfolding ShowsNoRoute
unheard_silent = inl refl

pub unheard_out : (f : Floor) (task : Task) (vs vs' : List View) → task.horizon ≤ 63 →
    best task (seen f (vs ++ (unheard ∷ vs'))) ≡ best task (seen f vs ++ seen_from f (suc (length vs)) vs')
unheard_out f task vs vs' short =
    ap (best task) (unheard_apart f vs vs')
    ∙ theorems.silent_left_out task (seen f vs) (seen_from f (suc (length vs)) vs') unheard short unheard_silent

-- Floors that agree in the horizon and the first k starts see the views of the first k carriers alike.
parked_same : (f f' : Floor) (j : ℕ) → f.horizon ≡ f'.horizon → start_of f j ≡ start_of f' j → parked f j ≡ parked f' j
unfolding parked
parked_same f f' j h s = ap₂ (λ (t c : ℕ). replicate (t + 1) c ++ replicate (63 - t) 0) h s

as_same : (f f' : Floor) (j : ℕ) (v : View) → parked f j ≡ parked f' j → seen_as f j v ≡ seen_as f' j v
unfolding seen_as
as_same f f' j unheard e = refl
as_same f f' j (heard none) e = ap (λ (r : List ℕ). heard (route r)) e
as_same f f' j (heard (route r)) e = refl

from_same : (f f' : Floor) (j k : ℕ) (vs : List View) → f.horizon ≡ f'.horizon → ((i : ℕ) → i < k → start_of f i ≡ start_of f' i) →
    j + length vs ≤ k → seen_from f j vs ≡ seen_from f' j vs
unfolding seen_from
from_same f f' j k [] h s l = refl
from_same f f' j k (v ∷ vs) h s l =
    ap₂ (λ (v : View) (vs : List View). v ∷ vs) (as_same f f' j v (parked_same f f' j h (s j (omega arith))))
    (from_same f f' (suc j) k vs h s (omega arith))

pub seen_same : (f f' : Floor) (k : ℕ) (vs : List View) → f.horizon ≡ f'.horizon → ((i : ℕ) → i < k → start_of f i ≡ start_of f' i) →
    length vs ≤ k → seen f vs ≡ seen f' vs
unfolding seen
seen_same f f' k vs h s l = from_same f f' 0 k vs h s (omega arith)
