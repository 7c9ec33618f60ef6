-- Ways over any rule of moves, by beat: what the theory of a search speaks of in place of routes.
use Prim.Native.Nat.{ℕ, suc, ◌≤◌, ◌<◌}
use native.Mathlib.Omega.{arith}
use mathlib.Core.Bool.{Bool, true}
use mathlib.Core.Path.{◌≡◌, refl, sym, ◌∙◌}
use Rattle.route.specs.Search.{Rule, later}

-- Each step of r is allowed for k beats, and then r is at a dock.
pub record Way (dock : ℕ → Bool) (k : ℕ) (ok : Rule) (r : ℕ → ℕ) : Type 0 where
  pub steps : (i : ℕ) → i < k → ok i (r i) (r (suc i)) ≡ true
  pub ends : dock (r k) ≡ true

-- r is from beat j through beat k where it is at beat k.
pub record Held (k : ℕ) (r : ℕ → ℕ) (j : ℕ) : Type 0 where
  pub within : j ≤ k
  pub held : (i : ℕ) → j ≤ i → i ≤ k → r i ≡ r k

-- The rule leads only to cells of the grid.
abbrev pub Inside : ℕ → Rule → Type 0
Inside cells ok = (t c d : ℕ) → ok t c d ≡ true → d < cells

-- Both are at the same cells through beat k.
abbrev pub Same : ℕ → (ℕ → ℕ) → (ℕ → ℕ) → Type 0
Same k r q = (i : ℕ) → i ≤ k → r i ≡ q i

-- r has the smaller cell at the first beat where r and q differ, which is at most k.
pub record Ahead (k : ℕ) (r q : ℕ → ℕ) : Type 0 where
  pub beat : ℕ
  pub within : beat ≤ k
  pub smaller : r beat < q beat
  pub same : (i : ℕ) → i < beat → r i ≡ q i

-- The way without its first beat.
abbrev pub rest : (ℕ → ℕ) → ℕ → ℕ
rest r i = r (suc i)

module _ {dock : ℕ → Bool} {k : ℕ} {r : ℕ → ℕ} {ok : Rule} where
  pub way_rest : Way dock (suc k) ok r → Way dock k (later ok) (rest r)
  way_rest w = record { steps = λ i h. w.steps (suc i) (omega arith); ends = w.ends }

  pub way_same : {q : ℕ → ℕ} → Way dock k ok r → Same k q r → Way dock k ok q
  way_same w s = record { steps = λ i h. rw (s i (omega arith), s (suc i) h) (w.steps i h); ends = rw (s k (omega arith)) w.ends }

module _ {k : ℕ} {r : ℕ → ℕ} where
  pub held_last : Held k r k
  held_last = record { within = omega arith; held = λ i l h. rw (last i l h) refl }
    where
      last : (i : ℕ) → k ≤ i → i ≤ k → i ≡ k
      last i l h = omega arith

  pub held_rest : {j : ℕ} → Held (suc k) r (suc j) → Held k (rest r) j
  held_rest h = record { within = omega (arith, h.within); held = λ i l b. h.held (suc i) (omega arith) (omega arith) }

  pub held_same : {q : ℕ → ℕ} {j : ℕ} → Held k r j → Same k q r → Held k q j
  held_same h s = record { within = h.within; held = λ i l b. s i b ∙ h.held i l b ∙ sym (s k (omega arith)) }

  pub held_after : {j p : ℕ} → Held k r j → j ≤ p → p ≤ k → Held k r p
  held_after h a b = record { within = b; held = λ i m n. h.held i (omega arith) n }
