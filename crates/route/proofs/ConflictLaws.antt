-- The conflict test finds the first conflict of two routes, or that they are free.
use Prim.Native.Nat.{ℕ, zero, suc, ◌≤◌, ◌<◌}
use native.Mathlib.Omega.{arith}
use native.Mathlib.Nat.{eq-or-lt_of_le, le_of_suc-le-suc}
use mathlib.Core.Bool.{Bool, true, false, cond}
use mathlib.Core.List.{List}
use mathlib.Core.Logic.{◌⊎◌, inl, inr}
use mathlib.Core.Path.{◌≡◌, refl, sym}
use lib.Dec.{ltb}
use borrow.Author.Tests.{eqb-true, eq-eqb, ltb-true, lt-ltb}
use Rattle.route.specs.Conflict.{VertexConflict, SwapConflict, Conflict, ConflictFree}
use Rattle.route.specs.FirstConflict.{ConflictKind, same_cell, change_of_places, following, rank_of, ConflictAt, FirstAt}
use Rattle.route.specs.FirstConflict.{ConflictAnswer, free, dated}
use Rattle.route.specs.ConflictTest.{changes, is_conflict, kinds, first_kind, or_next, first_below, first_conflict, TestedFor}
use Rattle.laws.proofs.Tests.{true_false_absurd, and_both, and_fst, and_snd, eqbs_say, eqbs_hold, lt_or_le}
use Rattle.route.proofs.FollowLaws.{following_says, following_holds}

-- A kind is told by its place in the order.
rank_tells : (kind kind' : ConflictKind) → rank_of kind ≡ rank_of kind' → kind ≡ kind'
unfolding rank_of
rank_tells same_cell same_cell e = refl
rank_tells same_cell change_of_places e = absurd (omega arith)
rank_tells change_of_places same_cell e = absurd (omega arith)
rank_tells change_of_places change_of_places e = refl
rank_tells same_cell following e = absurd (omega arith)
rank_tells change_of_places following e = absurd (omega arith)
rank_tells following same_cell e = absurd (omega arith)
rank_tells following change_of_places e = absurd (omega arith)
rank_tells following following e = refl

module _ (H : ℕ) (r q : List ℕ) where
  -- The test of a kind at a beat up to H is the conflict of that kind.
  test_says : (t : ℕ) (kind : ConflictKind) → t ≤ H → is_conflict H r q t kind ≡ true → ConflictAt H r q t kind
  unfolding changes is_conflict ConflictAt VertexConflict SwapConflict
  test_says t same_cell l e = (l, eqb-true _ _ e)
  test_says t change_of_places l e = (ltb-true t H (and_fst (ltb t H) _ e), eqbs_say _ _ _ _ (and_snd (ltb t H) _ e))
  test_says t following l e = (ltb-true t H (and_fst (ltb t H) _ e), following_says r q t (and_snd (ltb t H) _ e))

  test_holds : (t : ℕ) (kind : ConflictKind) → ConflictAt H r q t kind → is_conflict H r q t kind ≡ true
  unfolding changes is_conflict ConflictAt VertexConflict SwapConflict
  test_holds t same_cell c = eq-eqb _ _ c.1
  test_holds t change_of_places c = and_both (lt-ltb t H c.0) (eqbs_hold _ _ _ _ c.1)
  test_holds t following c = and_both (lt-ltb t H c.0) (following_holds r q t c.1)

  at_most : (t : ℕ) (kind : ConflictKind) → ConflictAt H r q t kind → t ≤ H
  unfolding ConflictAt
  at_most t same_cell c = c.0
  at_most t change_of_places c = omega (arith, c.0)
  at_most t following c = omega (arith, c.0)

  -- Beat u with one kind comes before beat t with another.
  abbrev Earlier : ℕ → ConflictKind → ℕ → ConflictKind → Type 0
  Earlier u kind t kind' = (u < t) ⊎ ((u ≡ t) × (rank_of kind < rank_of kind'))

  -- What an answer tells of the first n beats.
  unfoldable Tells : ℕ → ConflictAnswer → Type 0
  Tells n free = (u : ℕ) (kind : ConflictKind) → u < n → is_conflict H r q u kind ≡ false
  Tells n (dated t kind) =
      (t < n) × (is_conflict H r q t kind ≡ true)
      × ((u : ℕ) (kind' : ConflictKind) → Earlier u kind' t kind → is_conflict H r q u kind' ≡ false)

  -- One more beat: its kinds in their order, where nothing was found before.
  beat_tells : (n : ℕ) → Tells n free → (x y z : Bool) → is_conflict H r q n same_cell ≡ x → is_conflict H r q n change_of_places ≡ y →
      is_conflict H r q n following ≡ z →
      Tells (suc n) (cond x (dated n same_cell) (cond y (dated n change_of_places) (cond z (dated n following) free)))
  unfolding Tells rank_of
  beat_tells n h true y z e f g = (omega arith, e, earlier)
    where
      earlier : (u : ℕ) (kind : ConflictKind) → Earlier u kind n same_cell → is_conflict H r q u kind ≡ false
      earlier u kind (inl l) = h u kind l
      earlier u kind (inr p) = absurd (omega (arith, p.1))
  beat_tells n h false true z e f g = (omega arith, f, earlier)
    where
      earlier : (u : ℕ) (kind : ConflictKind) → Earlier u kind n change_of_places → is_conflict H r q u kind ≡ false
      earlier u kind (inl l) = h u kind l
      earlier u same_cell (inr p) = rw p.0 e
      earlier u change_of_places (inr p) = absurd (omega (arith, p.1))
      earlier u following (inr p) = absurd (omega (arith, p.1))
  beat_tells n h false false true e f g = (omega arith, g, earlier)
    where
      earlier : (u : ℕ) (kind : ConflictKind) → Earlier u kind n following → is_conflict H r q u kind ≡ false
      earlier u kind (inl l) = h u kind l
      earlier u same_cell (inr p) = rw p.0 e
      earlier u change_of_places (inr p) = rw p.0 f
      earlier u following (inr p) = absurd (omega (arith, p.1))
  beat_tells n h false false false e f g = none
    where
      here : (u : ℕ) (kind : ConflictKind) → (u ≡ n) ⊎ (u < n) → is_conflict H r q u kind ≡ false
      here u kind (inr l) = h u kind l
      here u same_cell (inl k) = rw k e
      here u change_of_places (inl k) = rw k f
      here u following (inl k) = rw k g

      none : (u : ℕ) (kind : ConflictKind) → u < suc n → is_conflict H r q u kind ≡ false
      none u kind l = here u kind (eq-or-lt_of_le (le_of_suc-le-suc l))

  next_tells : (n : ℕ) (x : ConflictAnswer) → Tells n x → Tells (suc n) (or_next x (first_kind H r q n kinds))
  unfolding Tells or_next first_kind kinds
  next_tells n free h =
      beat_tells n h (is_conflict H r q n same_cell) (is_conflict H r q n change_of_places) (is_conflict H r q n following) refl refl refl
  next_tells n (dated t kind) h = (omega (arith, h.0), h.1, h.2)

  below_tells : (n : ℕ) → Tells n (first_below H r q n)
  unfolding Tells first_below
  below_tells zero = λ u kind l. absurd (omega arith)
  below_tells (suc n) = next_tells n (first_below H r q n) (below_tells n)

  test_tells : Tells (suc H) (first_conflict H r q)
  unfolding first_conflict
  test_tells = below_tells (suc H)

  -- What `free` and a dated answer say, and that what is so is the answer.
  tells_none : Tells (suc H) free → (t : ℕ) (kind : ConflictKind) → ConflictAt H r q t kind → ⊥
  unfolding Tells
  tells_none h t kind c = true_false_absurd (test_holds t kind c) (h t kind (omega (arith, at_most t kind c)))

  tells_first : (t : ℕ) (kind : ConflictKind) → Tells (suc H) (dated t kind) → FirstAt H r q t kind
  unfolding Tells
  tells_first t kind h =
      record {
        there = test_says t kind (omega (arith, h.0)) h.1;
        first = λ u kind' e c. true_false_absurd (test_holds u kind' c) (h.2 u kind' e);
      }

  no_conflict : ConflictFree H r q → (t : ℕ) (kind : ConflictKind) → ConflictAt H r q t kind → ⊥
  unfolding ConflictAt
  no_conflict f t same_cell c = f.no_vertex t c.0 c.1
  no_conflict f t change_of_places c = f.no_swap t c.0 c.1
  no_conflict f t following c = f.no_following t c.0 c.1

  none_free : ((t : ℕ) (kind : ConflictKind) → ConflictAt H r q t kind → ⊥) → ConflictFree H r q
  unfolding ConflictAt
  none_free h =
      record {
        no_vertex = λ t l c. h t same_cell (l, c);
        no_swap = λ t l c. h t change_of_places (l, c);
        no_following = λ t l c. h t following (l, c);
      }

  is_free : ConflictFree H r q → (x : ConflictAnswer) → Tells (suc H) x → x ≡ free
  is_free f free h = refl
  is_free f (dated t kind) h = absurd (no_conflict f t kind (tells_first t kind h).there)

  -- Two first conflicts are one: neither comes before the other.
  is_first : (t : ℕ) (kind : ConflictKind) → FirstAt H r q t kind → (x : ConflictAnswer) → Tells (suc H) x → x ≡ dated t kind
  is_first t kind f free h = absurd (tells_none h t kind f.there)
  is_first t kind f (dated u kind') h = beats (lt_or_le u t) (lt_or_le t u)
    where
      g : FirstAt H r q u kind'
      g = tells_first u kind' h

      ranks : u ≡ t → (rank_of kind' < rank_of kind) ⊎ (rank_of kind ≤ rank_of kind') →
          (rank_of kind < rank_of kind') ⊎ (rank_of kind' ≤ rank_of kind) → dated u kind' ≡ dated t kind
      ranks e (inl l) m = absurd (f.first u kind' (inr (e, l)) g.there)
      ranks e (inr l) (inl m) = absurd (g.first t kind (inr (sym e, m)) f.there)
      ranks e (inr l) (inr m) = rw (e, rank_tells kind' kind (omega arith))

      beats : (u < t) ⊎ (t ≤ u) → (t < u) ⊎ (u ≤ t) → dated u kind' ≡ dated t kind
      beats (inl l) m = absurd (f.first u kind' (inl l) g.there)
      beats (inr l) (inl m) = absurd (g.first t kind (inl m) f.there)
      beats (inr l) (inr m) = ranks (omega arith) (lt_or_le (rank_of kind') (rank_of kind)) (lt_or_le (rank_of kind) (rank_of kind'))

  conflict_of : (t : ℕ) (kind : ConflictKind) → ConflictAt H r q t kind → Conflict H r q
  unfolding ConflictAt Conflict
  conflict_of t same_cell c = inl (t, c.0, c.1)
  conflict_of t change_of_places c = inr (inl (t, c.0, c.1))
  conflict_of t following c = inr (inr (t, c.0, c.1))

  any_conflict : (x : ConflictAnswer) → Tells (suc H) x → (x ≡ free → ⊥) → Conflict H r q
  any_conflict free h n = absurd (n refl)
  any_conflict (dated t kind) h n = conflict_of t kind (tells_first t kind h).there

  free_refutes : ConflictFree H r q → Conflict H r q → ⊥
  unfolding Conflict
  free_refutes f (inl h) = f.no_vertex h.0 h.1 h.2
  free_refutes f (inr (inl h)) = f.no_swap h.0 h.1 h.2
  free_refutes f (inr (inr h)) = f.no_following h.0 h.1 h.2

  says_free : first_conflict H r q ≡ free → ConflictFree H r q
  says_free e = none_free (tells_none (rw e at test_tells))

  pub tested : TestedFor H r q
  tested =
      record {
        free_exactly = (says_free, λ f. is_free f (first_conflict H r q) test_tells);
        first_exactly = λ t kind. (λ e. tells_first t kind (rw e at test_tells), λ f. is_first t kind f (first_conflict H r q) test_tells);
        conflict_exactly = (any_conflict (first_conflict H r q) test_tells, λ c e. free_refutes (says_free e) c);
      }
