-- Two lists of numbers are free of all conflicts through H exactly if they are spaced, jumps included. If r is at t + 1 where q is at t:
-- it was there already, which is one cell at t; or it entered, and q stayed, which is one cell at t + 1, or left, which is following.
-- The other way round likewise; and a change of places is both.
use Prim.Native.Nat.{ℕ, suc, ◌<◌}
use native.Mathlib.Omega.{arith}
use mathlib.Core.List.{List}
use mathlib.Core.Logic.{◌⊎◌, inl, inr, ◌↔◌}
use mathlib.Core.Path.{◌≡◌, sym, ◌∙◌}
use Rattle.route.specs.Route.{cell_at}
use Rattle.route.specs.Conflict.{VertexConflict, SwapConflict, Follows, FollowingConflict, ConflictFree}
use Rattle.route.specs.Spaced.{Spaced}
use Rattle.laws.proofs.Tests.{eq_or_ne}

-- Where r is at t + 1 the cell of q at t, there is one cell at t or at t + 1, or r follows q.
at_left : {A : Type 0} (r q : List ℕ) (t : ℕ) → cell_at r (suc t) ≡ cell_at q t → (VertexConflict r q t → A) →
    (VertexConflict r q (suc t) → A) → (Follows r q t → A) → A
unfolding VertexConflict Follows
at_left {A} r q t e here there follows =
    stays (eq_or_ne (cell_at r (suc t)) (cell_at r t)) (eq_or_ne (cell_at q (suc t)) (cell_at q t))
  where
    stays : (cell_at r (suc t) ≡ cell_at r t) ⊎ (cell_at r (suc t) ≡ cell_at r t → ⊥) →
        (cell_at q (suc t) ≡ cell_at q t) ⊎ (cell_at q (suc t) ≡ cell_at q t → ⊥) → A
    stays (inl p) k = here (sym p ∙ e)
    stays (inr p) (inl k) = there (e ∙ sym k)
    stays (inr p) (inr k) = follows (e, p, k)

module _ (H : ℕ) (r q : List ℕ) where
  pub free_spaced : ConflictFree H r q → Spaced H r q
  unfolding VertexConflict FollowingConflict
  free_spaced f =
      record {
        at_once = f.no_vertex;
        behind = λ t l e. at_left r q t e (f.no_vertex t (omega arith)) (f.no_vertex (suc t) l) (λ w. f.no_following t l (inl w));
        before =
            λ t l e. at_left q r t (sym e) (λ v. f.no_vertex t (omega arith) (sym v)) (λ v. f.no_vertex (suc t) l (sym v))
            (λ w. f.no_following t l (inr w));
      }

  pub spaced_free : Spaced H r q → ConflictFree H r q
  unfolding VertexConflict SwapConflict FollowingConflict Follows
  spaced_free p = record { no_vertex = p.at_once; no_swap = λ t l s. p.behind t l s.1; no_following = no_following }
    where
      no_following : (t : ℕ) → t < H → FollowingConflict r q t → ⊥
      no_following t l (inl w) = p.behind t l w.0
      no_following t l (inr w) = p.before t l (sym w.0)

  pub free_is_spaced : ConflictFree H r q ↔ Spaced H r q
  free_is_spaced = (free_spaced, spaced_free)
