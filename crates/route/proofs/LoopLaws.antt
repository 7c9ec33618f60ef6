-- The turns and the ends of the loops in `arrival` and `first_conflict`, over plain lists and numbers.
use Prim.Native.Nat.{ℕ, zero, suc, ◌+◌, ◌≤◌, ◌<◌}
use native.Mathlib.Omega.{arith}
use native.Mathlib.Nat.{eq-or-lt_of_le}
use native.Mathlib.Numerals.{add-one}
use mathlib.Core.Bool.{Bool, true, false, ◌&&◌}
use mathlib.Core.List.{List}
use mathlib.Core.Logic.{◌⊎◌, inl, inr}
use mathlib.Core.Path.{◌≡◌, refl, sym, ◌∙◌}
use lib.Dec.{ltb}
use lib.ListN.{get_or}
use borrow.Author.Tests.{eq-eqb, ne_eqb, lt-ltb, ltb-true}
use Rattle.route.specs.Route.{cell_at}
use Rattle.route.specs.Arrival.{settled, arrival_of}
use Rattle.route.specs.FirstConflict.{ConflictKind, same_cell, change_of_places, following, free, dated}
use Rattle.route.specs.ConflictTest.{changes, follows, is_conflict, kinds, first_kind, or_next, first_below, first_conflict}
use Rattle.laws.proofs.Tests.{not_true_is_false, false_fails, and_both, and_fst, and_snd}
use Rattle.route.proofs.ArrivalLaws.{settled_there, settled_away}

module _ (d : ℕ) (r : List ℕ) where
  pub settled_turn_away : (t : ℕ) → (get_or r t 0 ≡ d → ⊥) → t + 1 ≡ settled d r (t + 1)
  unfolding cell_at
  settled_turn_away t h = rw add-one (sym (settled_away d r t h))

  pub settled_turn_there : (t : ℕ) → get_or r t 0 ≡ d → settled d r t ≡ settled d r (t + 1)
  unfolding cell_at
  settled_turn_there t e = rw add-one (sym (settled_there d r t e))

pub settled_ends : (r : List ℕ) (d t last h a : ℕ) → d ≡ get_or r last 0 → t ≤ last → last ≤ t → last ≡ h → a ≡ settled d r t →
    a ≡ arrival_of r h
unfolding arrival_of cell_at
settled_ends r d t last h a there upto past e s = let same : t ≡ h = omega arith in s ∙ rw (there, e, same)

module _ (H : ℕ) (r q : List ℕ) where
  pub found_none : first_below H r q 0 ≡ free
  unfolding first_below
  found_none = refl

  -- What is found at the first beats stays the answer.
  found_stays : (n p t : ℕ) (kind : ConflictKind) → first_below H r q n ≡ dated t kind → n ≤ p → first_below H r q p ≡ dated t kind
  unfolding first_below or_next
  found_stays n zero t kind e l = let same : n ≡ 0 = omega arith in rw same at e
  found_stays n (suc p) t kind e l = split (eq-or-lt_of_le l) (λ (h : n ≤ p). found_stays n p t kind e h)
    where
      split : (n ≡ suc p) ⊎ (n < suc p) → (n ≤ p → first_below H r q p ≡ dated t kind) →
          or_next (first_below H r q p) (first_kind H r q p kinds) ≡ dated t kind
      split (inl k) below = rw k at e
      split (inr h) below = rw (below (omega arith))

  -- A test of the moves that both make after beat t.
  abbrev moving : (ℕ → ℕ → ℕ → ℕ → Bool) → ℕ → Bool
  moving φ t = φ (get_or r t 0) (get_or r (t + 1) 0) (get_or q t 0) (get_or q (t + 1) 0)

  no_move : (φ : ℕ → ℕ → ℕ → ℕ → Bool) (t : ℕ) → moving φ t ≡ false →
      (ltb t H && φ (cell_at r t) (cell_at r (suc t)) (cell_at q t) (cell_at q (suc t))) ≡ false
  unfolding cell_at
  no_move φ t e = not_true_is_false _ (λ k. false_fails (rw add-one at e) (and_snd (ltb t H) _ k))

  is_move : (φ : ℕ → ℕ → ℕ → ℕ → Bool) (t : ℕ) → t < H → moving φ t ≡ true →
      (ltb t H && φ (cell_at r t) (cell_at r (suc t)) (cell_at q t) (cell_at q (suc t))) ≡ true
  unfolding cell_at
  is_move φ t l e = and_both (lt-ltb t H l) (rw add-one at e)

  no_vertex : (t : ℕ) → (get_or r t 0 ≡ get_or q t 0 → ⊥) → is_conflict H r q t same_cell ≡ false
  unfolding is_conflict cell_at
  no_vertex t n = ne_eqb _ _ n

  is_vertex : (t : ℕ) → get_or r t 0 ≡ get_or q t 0 → is_conflict H r q t same_cell ≡ true
  unfolding is_conflict cell_at
  is_vertex t e = eq-eqb _ _ e

  -- One more beat: none of the three, same cell, a change of places, or a following.
  pub found_turn : (t : ℕ) → first_below H r q t ≡ free → (get_or r t 0 ≡ get_or q t 0 → ⊥) → moving changes t ≡ false →
      moving follows t ≡ false → first_below H r q (t + 1) ≡ free
  unfolding is_conflict first_below or_next first_kind kinds
  found_turn t e n s f = rw (add-one, first_below) (rw (e, no_vertex t n, no_move changes t s, no_move follows t f))

  pub vertex_found : (t : ℕ) → first_below H r q t ≡ free → t ≤ H → get_or r t 0 ≡ get_or q t 0 → dated t same_cell ≡ first_conflict H r q
  unfolding first_conflict first_below or_next first_kind kinds
  vertex_found t e l h = sym (found_stays (suc t) (suc H) t same_cell (rw (e, is_vertex t h)) (omega arith))

  pub swap_found : (t : ℕ) → first_below H r q t ≡ free → t < H → (get_or r t 0 ≡ get_or q t 0 → ⊥) → moving changes t ≡ true →
      dated t change_of_places ≡ first_conflict H r q
  unfolding is_conflict first_conflict first_below or_next first_kind kinds
  swap_found t e l n s =
      sym (found_stays (suc t) (suc H) t change_of_places (rw (e, no_vertex t n, is_move changes t l s)) (omega arith))

  pub following_found : (t : ℕ) → first_below H r q t ≡ free → t < H → (get_or r t 0 ≡ get_or q t 0 → ⊥) → moving changes t ≡ false →
      moving follows t ≡ true → dated t following ≡ first_conflict H r q
  unfolding is_conflict first_conflict first_below or_next first_kind kinds
  following_found t e l n s f =
      sym (found_stays (suc t) (suc H) t following (rw (e, no_vertex t n, no_move changes t s, is_move follows t l f)) (omega arith))

  -- After the last beat nothing moves.
  past_move : (x : Bool) → (ltb H H && x) ≡ false
  past_move x = not_true_is_false _ (λ k. absurd (omega (arith, ltb-true H H (and_fst (ltb H H) x k))))

  pub last_found : (t : ℕ) → first_below H r q t ≡ free → t ≤ H → H ≤ t → get_or r H 0 ≡ get_or q H 0 → dated H same_cell ≡ first_conflict H r q
  last_found t e l k h = let same : t ≡ H = omega arith in vertex_found H (rw same at e) (omega arith) h

  pub found_end : (t : ℕ) → first_below H r q t ≡ free → t ≤ H → H ≤ t → (get_or r H 0 ≡ get_or q H 0 → ⊥) → free ≡ first_conflict H r q
  unfolding is_conflict first_conflict first_below or_next first_kind kinds
  found_end t e l k n = let same : t ≡ H = omega arith in let f = rw same at e in sym (rw (f, no_vertex H n, past_move _, past_move _))
