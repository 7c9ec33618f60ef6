-- Laws of `holds` and `ended`: a way has ended where it is at a dock that can be held to the end, and then it stays.
use Prim.Native.Nat.{ℕ, zero, suc, ◌<◌}
use native.Mathlib.Omega.{arith}
use mathlib.Core.Bool.{Bool, true}
use mathlib.Core.Path.{◌≡◌, refl}
use Rattle.route.specs.Search.{Rule, later, holds, ended}
use Rattle.laws.proofs.Tests.{and_both, and_fst, and_snd}
use Rattle.route.proofs.Ways.{Way, Held}

pub holds_says : (k : ℕ) (ok : Rule) (c : ℕ) → holds k ok c ≡ true → (i : ℕ) → i < k → ok i c c ≡ true
unfolding holds
holds_says zero ok c e i h = absurd (omega arith)
holds_says (suc k) ok c e zero h = and_fst (ok 0 c c) (holds k (later ok) c) e
holds_says (suc k) ok c e (suc i) h = holds_says k (later ok) c (and_snd (ok 0 c c) (holds k (later ok) c) e) i (omega arith)

pub holds_all : (k : ℕ) (ok : Rule) (c : ℕ) → ((i : ℕ) → i < k → ok i c c ≡ true) → holds k ok c ≡ true
unfolding holds
holds_all zero ok c h = refl
holds_all (suc k) ok c h = and_both (h 0 (omega arith)) (holds_all k (later ok) c (λ i l. h (suc i) (omega arith)))

module _ (dock : ℕ → Bool) where
  pub ended_dock : (k : ℕ) (ok : Rule) (c : ℕ) → ended dock k ok c ≡ true → dock c ≡ true
  unfolding ended
  ended_dock k ok c e = and_fst (dock c) (holds k ok c) e

  pub ended_holds : (k : ℕ) (ok : Rule) (c : ℕ) → ended dock k ok c ≡ true → (i : ℕ) → i < k → ok i c c ≡ true
  unfolding ended
  ended_holds k ok c e = holds_says k ok c (and_snd (dock c) (holds k ok c) e)

  pub ended_later : (k : ℕ) (ok : Rule) (c : ℕ) → ended dock (suc k) ok c ≡ true → ended dock k (later ok) c ≡ true
  unfolding ended
  ended_later k ok c e =
      and_both (ended_dock (suc k) ok c e) (holds_all k (later ok) c (λ i h. ended_holds (suc k) ok c e (suc i) (omega arith)))

  -- A way that is from its first beat on where it ends has ended.
  pub way_ended : (k : ℕ) (ok : Rule) (r : ℕ → ℕ) → Way dock k ok r → Held k r 0 → ended dock k ok (r 0) ≡ true
  unfolding ended
  way_ended k ok r w h = and_both docks (holds_all k ok (r 0) stay)
    where
      here : r 0 ≡ r k
      here = h.held 0 (omega arith) (omega arith)

      docks : dock (r 0) ≡ true
      docks = rw here w.ends

      stay : (i : ℕ) → i < k → ok i (r 0) (r 0) ≡ true
      stay i l = rw here (rw (h.held i (omega arith) (omega arith), h.held (suc i) (omega arith) l) at (w.steps i l))
