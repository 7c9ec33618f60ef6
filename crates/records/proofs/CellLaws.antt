-- The cells of a view: each is taken at its beat and at the beats beside it.
use Prim.Native.Nat.{ℕ, suc, ◌+◌, ◌*◌, ◌≤◌, ◌<◌}
use native.Mathlib.Omega.{arith}
use mathlib.Core.Bool.{Bool, true, false}
use mathlib.Core.List.{List}
use mathlib.Core.Logic.{◌⊎◌, inl, inr, ◌↔◌}
use mathlib.Core.Path.{◌≡◌, refl, sym, ap, ◌∙◌}
use borrow.Author.Tests.{eq-eqb, ne_eqb}
use lib.Dec.{eqb}
use lib.ListN.{get_or}
use Rattle.laws.specs.Memory.{part}
use Rattle.laws.proofs.PartLaws.{part_byte}
use Rattle.laws.proofs.Tests.{lt_or_le}
use Rattle.route.specs.Route.{cell_at, none, route, View, unheard, heard}
use Rattle.route.specs.Moves.{vacant}
use Rattle.route.proofs.MovesLaws.{Vacant, route_vacant, vacant_route}
use Rattle.records.specs.Records.{view_of, record_at, view_at, view_cell, Away}

-- The view that a record shows, and its cell x at a beat, by the two tests of the tag.
view_by : Bool → Bool → List ℕ → View
view_by x y q = elim x [ true ↦ heard (route q) | false ↦ elim y [ true ↦ heard none | false ↦ unheard ] ]

cell_by : Bool → ℕ → ℕ
cell_by y x = elim y [ true ↦ x | false ↦ 65535 ]

-- A heard route leaves a cell vacant exactly if the cell is not its at the beat or at one beside it.
away_says : (H t d : ℕ) (q : List ℕ) → t ≤ H → Vacant H t d q → (u : ℕ) → u < suc H → u ≤ suc t → t ≤ suc u → d ≡ cell_at q u → ⊥
away_says H t d q l v u h up down e = split (lt_or_le u t) (lt_or_le t u)
  where
    split : (u < t) ⊎ (t ≤ u) → (t < u) ⊎ (u ≤ t) → ⊥
    split (inl a) b = v.past u (omega arith) e
    split (inr a) (inl b) = let next : u ≡ suc t = omega arith in v.next (omega arith) (rw next at e)
    split (inr a) (inr b) = let now : u ≡ t = omega arith in v.now (rw now at e)

away_holds : (H t d : ℕ) (q : List ℕ) → t ≤ H → ((u : ℕ) → u < suc H → u ≤ suc t → t ≤ suc u → d ≡ cell_at q u → ⊥) → Vacant H t d q
away_holds H t d q l away =
    record {
      now = away t (omega arith) (omega arith) (omega arith);
      next = λ h. away (suc t) (omega arith) (omega arith) (omega arith);
      past = λ u s. away u (omega arith) (omega arith) (omega arith);
    }

none_vacant : (H t d : ℕ) → vacant H t d (heard none) ≡ true
unfolding vacant
none_vacant H t d = refl

unheard_vacant : (H t d : ℕ) → vacant H t d unheard ≡ true
unfolding vacant
unheard_vacant H t d = refl

by_vacant : (y z : Bool) (q : List ℕ) (H t d : ℕ) (φ : ℕ → ℕ) → ((u : ℕ) → u < suc H → cell_at q u ≡ φ u) → t ≤ H → d < 65535 →
    (vacant H t d (view_by y z q) ≡ true) ↔ ((u : ℕ) → u < suc H → u ≤ suc t → t ≤ suc u → d ≡ cell_by y (φ u) → ⊥)
unfolding view_by cell_by
by_vacant true z q H t d φ same l small = (
  λ h u k up down p. away_says H t d q l (route_vacant H t d q h) u k up down (p ∙ sym (same u k)),
  λ away. vacant_route H t d q (away_holds H t d q l (λ u k up down p. away u k up down (p ∙ same u k))),
)
by_vacant false true q H t d φ same l small = (λ h u k up down p. omega arith, λ away. none_vacant H t d)
by_vacant false false q H t d φ same l small = (λ h u k up down p. omega arith, λ away. unheard_vacant H t d)

module _ (m : List ℕ) (j : ℕ) where
  record_cell : (t : ℕ) → t < 64 → cell_at (part m (65 * j + 1) 64) t ≡ get_or m (65 * j + 1 + t) 0
  unfolding cell_at
  record_cell t h = part_byte m (65 * j + 1) 64 t h

  -- A record that shows a route has its cell at the beat, another one no cell.
  pub cell_route : (t : ℕ) → get_or m (65 * j) 0 ≡ 2 → get_or m (65 * j + 1 + t) 0 ≡ view_cell m j t
  unfolding view_cell cell_by
  cell_route t e = sym (ap (λ (x : Bool). cell_by x (get_or m (65 * j + 1 + t) 0)) (eq-eqb (get_or m (65 * j) 0) 2 e))

  pub cell_none : (t : ℕ) → (get_or m (65 * j) 0 ≡ 2 → ⊥) → 65535 ≡ view_cell m j t
  unfolding view_cell cell_by
  cell_none t e = sym (ap (λ (x : Bool). cell_by x (get_or m (65 * j + 1 + t) 0)) (ne_eqb (get_or m (65 * j) 0) 2 e))

  -- A cell is vacant exactly if it is not the view's at the beat or at one beside it.
  pub vacant_cell : (H t d : ℕ) → H ≤ 63 → t ≤ H → d < 65535 → (vacant H t d (view_at m j) ≡ true) ↔ Away m j (suc H) t d
  unfolding view_at record_at view_of view_cell view_by cell_by
  vacant_cell H t d short h l =
      by_vacant (eqb (get_or m (65 * j) 0) 2) (eqb (get_or m (65 * j) 0) 1) (part m (65 * j + 1) 64) H t d (λ u. get_or m (65 * j + 1 + u) 0)
      (λ u k. record_cell u (omega arith)) h l
