-- The conflict test of two routes as it is computed, beat by beat and kind by kind; and what the test of two routes is.
use Rattle.std.specs.Prelude.{ℕ, zero, suc, Bool, cond, ◌&&◌, ◌||◌, not, List, [], ◌∷◌, ◌↔◌, ◌≡◌, eqb, ltb, Option, None, Some}
use Rattle.route.specs.Route.{cell_at}
use Rattle.route.specs.Conflict.{Conflict, ConflictFree}
use Rattle.route.specs.FirstConflict.{ConflictKind, same_cell, change_of_places, following, FirstAt, ConflictAnswer, free, dated}
use Rattle.route.specs.declared.Conflict.{Conflict as Met}
use Rattle.route.specs.declared.Conflict.TheVariants.{SameCell, ChangeOfPlaces, Following}

-- What each case of the code's answer says.
unfoldable pub conflict_told : Option Met → ConflictAnswer
conflict_told None = free
conflict_told (Some (SameCell t)) = dated t same_cell
conflict_told (Some (ChangeOfPlaces t)) = dated t change_of_places
conflict_told (Some (Following t)) = dated t following

-- A move from c to d and one from x to y change places.
unfoldable pub changes : ℕ → ℕ → ℕ → ℕ → Bool
changes c d x y = eqb c y && eqb d x

-- A move from c to d enters the cell that a move from x to y leaves.
unfoldable pub enters : ℕ → ℕ → ℕ → ℕ → Bool
enters c d x y = eqb d x && (not (eqb d c) && not (eqb y x))

-- Of a move from c to d and one from x to y, one enters the cell that the other leaves.
unfoldable pub follows : ℕ → ℕ → ℕ → ℕ → Bool
follows c d x y = enters c d x y || enters x y c d

-- The test of a kind at a beat up to H.
unfoldable pub is_conflict : ℕ → List ℕ → List ℕ → ℕ → ConflictKind → Bool
is_conflict H r q t same_cell = eqb (cell_at r t) (cell_at q t)
is_conflict H r q t change_of_places = ltb t H && changes (cell_at r t) (cell_at r (suc t)) (cell_at q t) (cell_at q (suc t))
is_conflict H r q t following = ltb t H && follows (cell_at r t) (cell_at r (suc t)) (cell_at q t) (cell_at q (suc t))

-- The kinds in their order.
unfoldable pub kinds : List ConflictKind
kinds = same_cell ∷ change_of_places ∷ following ∷ []

-- The first kind of a list whose test holds at beat t.
unfoldable pub first_kind : ℕ → List ℕ → List ℕ → ℕ → List ConflictKind → ConflictAnswer
first_kind H r q t [] = free
first_kind H r q t (kind ∷ rest) = cond (is_conflict H r q t kind) (dated t kind) (first_kind H r q t rest)

-- An answer, or the next one where it is free.
unfoldable pub or_next : ConflictAnswer → ConflictAnswer → ConflictAnswer
or_next free y = y
or_next (dated t kind) y = dated t kind

-- The first conflict at the first n beats.
unfoldable pub first_below : ℕ → List ℕ → List ℕ → ℕ → ConflictAnswer
first_below H r q zero = free
first_below H r q (suc n) = or_next (first_below H r q n) (first_kind H r q n kinds)

-- The first conflict through beat H, as it is computed.
unfoldable pub first_conflict : ℕ → List ℕ → List ℕ → ConflictAnswer
first_conflict H r q = first_below H r q (suc H)

-- What the test says of two routes: free exactly if they have no conflict, otherwise the first one; any answer but free is a conflict.
pub record TestedFor (H : ℕ) (r q : List ℕ) : Type 0 where
  pub free_exactly : (first_conflict H r q ≡ free) ↔ ConflictFree H r q
  pub first_exactly : (t : ℕ) (kind : ConflictKind) → (first_conflict H r q ≡ dated t kind) ↔ FirstAt H r q t kind
  pub conflict_exactly : (first_conflict H r q ≡ free → ⊥) ↔ Conflict H r q
