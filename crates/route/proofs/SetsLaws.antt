-- The passes of a search by sets, over any rule: the greedy walk leads to a dock.
use Prim.Native.Nat.{ℕ, zero, suc, ◌+◌, ◌-◌, ◌≤◌, ◌<◌}
use native.Mathlib.Omega.{arith}
use native.Mathlib.Nat.{eq-or-lt_of_le}
use mathlib.Core.Bool.{Bool, true}
use mathlib.Core.Logic.{◌⊎◌, inl, inr, ⊎_elim}
use mathlib.Core.Path.{◌≡◌, refl, sym, ◌∙◌}
use Rattle.route.specs.Search.{Rule}
use Rattle.laws.proofs.Tests.{lt_or_le}
use Rattle.route.proofs.Ways.{Way, Held, Same, Ahead}
use Rattle.route.proofs.Leads.{Leads}
use Rattle.route.proofs.Sets.{Sets, Reached, Leading, Forward, Ending, Reaches, Least, Backward, Greedy}

module _ (ok : Rule) (start : ℕ) (dock : ℕ → Bool) (H : ℕ) where
  -- A way from the start is in the forward sets.
  pub way_in_forward : (n : ℕ) (F : Sets) (r : ℕ → ℕ) → Forward ok start n F → Way dock H ok r → r 0 ≡ start → (t : ℕ) → t ≤ n → t ≤ H →
      F t (r t) ≡ true
  way_in_forward n F r f w e zero l h = (f.begins (r 0)).1 e
  way_in_forward n F r f w e (suc t) l h =
      (f.spreads t (r (suc t)) l).1 (r t, way_in_forward n F r f w e t (omega arith) (omega arith), w.steps t h)

  -- A way that is where it ends from beat b on shows that its last cell can be held from then on.
  held_ending : (r : ℕ → ℕ) (b : ℕ) → Way dock H ok r → Held H r b → Ending ok dock H b (r b)
  held_ending r b w h = record { docks = rw here w.ends; holds = hold }
    where
      here : r b ≡ r H
      here = h.held b (omega arith) h.within

      hold : (t : ℕ) → b ≤ t → t < H → ok t (r b) (r b) ≡ true
      hold t l k = rw here (rw (h.held t l (omega arith), h.held (suc t) (omega arith) k) at (w.steps t k))

  -- A way from the start that is where it ends for good from b on: b is an arrival.
  pub held_reaches : (n : ℕ) (F : Sets) (r : ℕ → ℕ) (b : ℕ) → Forward ok start n F → Way dock H ok r → r 0 ≡ start → Held H r b →
      b ≤ n → Reaches ok dock H F b
  held_reaches n F r b f w e h l =
      record { where_to = r b; reached = way_in_forward n F r f w e b l h.within; ending = held_ending r b w h }

  module _
      (a : ℕ) (F B : Sets) (φ : ℕ → ℕ)
      (forward : Forward ok start a F) (least : Least ok dock H F a)
      (backward : Backward ok dock H a F B) (greedy : Greedy ok start H a B φ) where
    -- The passes meet: going down from a dock at beat a, some cell is in both sets, at beat 0 the start.
    meet : (t c : ℕ) → t ≤ a → F t c ≡ true → B t c ≡ true → B 0 start ≡ true
    meet zero c l f b = rw ((forward.begins c).0 f) at b
    meet (suc t) c l f b = meet t from.0 (omega arith) from.1 (backward.holds t from.0 l from.1 (c, from.2, b))
      where
        from : Reached ok F t c
        from = (forward.spreads t c l).0 f

    starts : B 0 start ≡ true
    starts =
        meet a least.reaches.where_to (omega arith) least.reaches.reached
        (backward.begins least.reaches.where_to least.reaches.reached least.reaches.ending)

    -- From a cell of the backward set the walk goes on to the smallest allowed cell of the next one.
    walk_next : (t : ℕ) → t < a → B t (φ t) ≡ true → (ok t (φ t) (φ (suc t)) ≡ true) × (B (suc t) (φ (suc t)) ≡ true)
    walk_next t l b = (taken.0, taken.1)
      where
        next : Leading ok B t (φ t)
        next = backward.leads t (φ t) l b

        taken : (ok t (φ t) (φ (suc t)) ≡ true) × (B (suc t) (φ (suc t)) ≡ true) × (φ (suc t) ≤ next.0)
        taken = greedy.takes t next.0 l next.1 next.2

    walk_in_backward : (t : ℕ) → t ≤ a → B t (φ t) ≡ true
    walk_in_backward zero l = rw greedy.begins starts
    walk_in_backward (suc t) l = (walk_next t l (walk_in_backward t (omega arith))).1

    -- At beat a the walk is at a dock that can be held, and it stays there.
    at_dock : Ending ok dock H a (φ a)
    at_dock = backward.ends (φ a) (walk_in_backward a (omega arith))

    stays : (t : ℕ) → a ≤ t → t ≤ H → φ t ≡ φ a
    stays zero l h = let e : a ≡ 0 = omega arith in rw e refl
    stays (suc t) l h =
        ⊎_elim (λ (e : a ≡ suc t). rw e refl) (λ (e : a < suc t). greedy.stays t (omega arith) h ∙ stays t (omega arith) (omega arith))
        (eq-or-lt_of_le l)

    walk_step : (t : ℕ) → t < H → ok t (φ t) (φ (suc t)) ≡ true
    walk_step t h = ⊎_elim before after (lt_or_le t a)
      where
        before : t < a → ok t (φ t) (φ (suc t)) ≡ true
        before l = (walk_next t l (walk_in_backward t (omega arith))).0

        after : a ≤ t → ok t (φ t) (φ (suc t)) ≡ true
        after l = rw (stays t l (omega arith), stays (suc t) (omega arith) h) (at_dock.holds t l h)

    -- No way from the start is where it ends for good before a.
    no_earlier : (r : ℕ → ℕ) (b : ℕ) → Way dock H ok r → r 0 ≡ start → Held H r b → a ≤ b
    no_earlier r b w e h = ⊎_elim (λ (l : b < a). absurd (early l)) (λ (l : a ≤ b). l) (lt_or_le b a)
      where
        early : b < a → ⊥
        early l = least.none_before b l (held_reaches a F r b forward w e h (omega arith))

    -- A way that is where it ends from beat a on is in the backward sets, going down from there.
    way_in_backward : (r : ℕ → ℕ) → Way dock H ok r → r 0 ≡ start → Held H r a → (k t : ℕ) → t + k ≡ a → B t (r t) ≡ true
    way_in_backward r w s h zero t q =
        rw last (backward.begins (r a) (way_in_forward a F r forward w s a (omega arith) least.within) (held_ending r a w h))
      where
        last : t ≡ a
        last = omega arith
    way_in_backward r w s h (suc k) t q =
        backward.holds t (r t) (omega arith) (way_in_forward a F r forward w s t (omega arith) (omega (arith, least.within)))
        (r (suc t), w.steps t (omega (arith, least.within)), way_in_backward r w s h k (suc t) (omega arith))

    -- The walk against another way, beat by beat: the same so far, or the walk is ahead.
    compare : (r : ℕ → ℕ) → Way dock H ok r → r 0 ≡ start → Held H r a → (t : ℕ) → t ≤ a → Same t r φ ⊎ Ahead t φ r
    compare r w e g zero l = inl only
      where
        only : Same 0 r φ
        only zero h = e ∙ sym greedy.begins
        only (suc i) h = absurd (omega arith)
    compare r w e g (suc t) l = go (compare r w e g t (omega arith))
      where
        smallest : r t ≡ φ t → φ (suc t) ≤ r (suc t)
        smallest q = (greedy.takes t (r (suc t)) l move (way_in_backward r w e g (a - suc t) (suc t) (omega arith))).2
          where
            move : ok t (φ t) (r (suc t)) ≡ true
            move = rw q at (w.steps t (omega (arith, least.within)))

        same_more : Same t r φ → φ (suc t) ≡ r (suc t) → Same (suc t) r φ
        same_more s q i h = ⊎_elim (λ (j : i ≡ suc t). rw j (sym q)) (λ (j : i < suc t). s i (omega arith)) (eq-or-lt_of_le h)

        step : Same t r φ → (φ (suc t) ≡ r (suc t)) ⊎ (φ (suc t) < r (suc t)) → Same (suc t) r φ ⊎ Ahead (suc t) φ r
        step s (inl q) = inl (same_more s q)
        step s (inr q) = inr (record { beat = suc t; within = omega arith; smaller = q; same = λ i h. sym (s i (omega arith)) })

        go : Same t r φ ⊎ Ahead t φ r → Same (suc t) r φ ⊎ Ahead (suc t) φ r
        go (inl s) = step s (eq-or-lt_of_le (smallest (s t (omega arith))))
        go (inr k) = inr (record { beat = k.beat; within = omega (arith, k.within); smaller = k.smaller; same = k.same })

    through : (r : ℕ → ℕ) → Held H r a → Same a r φ ⊎ Ahead a φ r → Same H r φ ⊎ Ahead H φ r
    through r h (inl s) = inl all
      where
        all : Same H r φ
        all i l = ⊎_elim (λ (k : i < a). s i (omega arith)) (λ (k : a ≤ i). past i k l) (lt_or_le i a)
          where
            past : (j : ℕ) → a ≤ j → j ≤ H → r j ≡ φ j
            past j k b = h.held j k b ∙ sym (h.held a (omega arith) least.within) ∙ s a (omega arith) ∙ sym (stays j k b)
    through r h (inr k) =
        inr (record { beat = k.beat; within = omega (arith, k.within, least.within); smaller = k.smaller; same = k.same })

    pub greedy_leads : Leads dock H ok start a φ
    greedy_leads =
        record {
          way = record { steps = walk_step; ends = rw (stays H least.within (omega arith)) at_dock.docks };
          held = record {
            within = least.within;
            held = λ i l h. stays i l h ∙ sym (stays H least.within (omega arith));
          };
          least = no_earlier;
          first = λ r w e h. through r h (compare r w e h a (omega arith));
        }
