-- The near cells of a cell in rising order: the first of them that passes a test is the smallest that does.
use Prim.Native.Nat.{ℕ, ◌+◌, ◌*◌, ◌-◌, ◌/◌, ◌%◌, ◌≤◌, ◌<◌}
use native.Mathlib.Omega.{arith}
use native.Mathlib.Nat.{mod-lt, div-add-mod', suc-mul, add-div_right, add-mod_right}
use mathlib.Core.Bool.{Bool, true, false, ◌&&◌}
use mathlib.Core.Logic.{◌⊎◌, inl, inr}
use mathlib.Core.Path.{◌≡◌, refl, sym, ap, ◌∙◌}
use borrow.Author.Tests.{leb-true, le-leb, ltb-true, lt-ltb}
use lib.Dec.{leb, ltb}
use Rattle.route.specs.Route.{Neighbours, SharesSide}
use Rattle.route.specs.Moves.{near}
use Rattle.laws.proofs.Tests.{and_both, and_fst, and_snd}
use Rattle.route.proofs.NearLaws.{near_says, near_holds}
use Rattle.layers.proofs.MemberLaws.{near_row, near_same}
use Rattle.passes.specs.Walk.{pick, first_near}

-- What holds of both, or of the one that is picked.
pick_both : (P : ℕ → Type 0) (z : Bool) (x y : ℕ) → (z ≡ true → P x) → P y → P (pick z x y)
unfolding pick
pick_both P true x y f h = f refl
pick_both P false x y f h = h

pick_first : (P : ℕ → Type 0) (z : Bool) (x y : ℕ) → z ≡ true → P x → P (pick z x y)
unfolding pick
pick_first P z x y e h = rw (e, pick) h

-- The near cells of c in rising order.
pub data Candidate (w c d : ℕ) : Type 0 where
  up : w ≤ c → d ≡ c - w → Candidate w c d
  left : 0 < c % w → d ≡ c - 1 → Candidate w c d
  here : d ≡ c → Candidate w c d
  right : c % w + 1 < w → d ≡ c + 1 → Candidate w c d
  down : d ≡ c + w → Candidate w c d

module _ (w c : ℕ) (thin : 0 < w) where
  near_down : near w c (c + w) ≡ true
  unfolding SharesSide Neighbours
  near_down = near_holds w c (c + w) (inr (inr (sym (add-mod_right c w), inr (add-div_right c thin ∙ omega arith))))

  near_up : w ≤ c → near w c (c - w) ≡ true
  unfolding SharesSide Neighbours
  near_up h =
      near_holds w c (c - w) (inr (inr (rw back at (add-mod_right (c - w) w), inl (rw back at (add-div_right (c - w) thin) ∙ omega arith))))
    where
      back : c - w + w ≡ c
      back = omega arith

  near_left : 0 < c % w → near w c (c - 1) ≡ true
  near_left h =
      rw (same, less) at (near_row w (c / w) (c % w) (c % w - 1) (mod-lt c thin) (omega (arith, mod-lt c thin)) (inl (omega arith)))
    where
      same : c / w * w + c % w ≡ c
      same = div-add-mod' c w

      less : c / w * w + (c % w - 1) ≡ c - 1
      less = omega (arith, same)

  near_right : c % w + 1 < w → near w c (c + 1) ≡ true
  near_right h = rw (same, more) at (near_row w (c / w) (c % w) (c % w + 1) (mod-lt c thin) h (inr (omega arith)))
    where
      same : c / w * w + c % w ≡ c
      same = div-add-mod' c w

      more : c / w * w + (c % w + 1) ≡ c + 1
      more = omega (arith, same)

  pub near_candidate : (d : ℕ) → near w c d ≡ true → Candidate w c d
  unfolding SharesSide Neighbours
  near_candidate d e = go (near_says w c d e)
    where
      of_c : c / w * w + c % w ≡ c
      of_c = div-add-mod' c w

      of_d : d / w * w + d % w ≡ d
      of_d = div-add-mod' d w

      go : (d ≡ c) ⊎ SharesSide w c d → Candidate w c d
      go (inl h) = here h
      go (inr (inl (h, inl l))) = left (omega (arith, l)) (omega (arith, of_c, of_d, ap (λ (n : ℕ). n * w) h, l))
      go (inr (inl (h, inr l))) =
          right (omega (arith, l, mod-lt d thin)) (omega (arith, of_c, of_d, ap (λ (n : ℕ). n * w) h, l))
      go (inr (inr (h, inl l))) =
          let p = ap (λ (n : ℕ). n * w) l ∙ suc-mul (d / w) w in
          up (omega (arith, of_c, of_d, p, h)) (omega (arith, of_c, of_d, p, h))
      go (inr (inr (h, inr l))) =
          let p = ap (λ (n : ℕ). n * w) l ∙ suc-mul (c / w) w in
          down (omega (arith, of_c, of_d, p, h))

  -- What holds of every near cell that passes the test, and of the cell, holds of the first.
  pub first_holds : (φ : ℕ → Bool) (P : ℕ → Type 0) → ((d : ℕ) → φ d ≡ true → P d) → P c → P (first_near φ w c)
  unfolding first_near
  first_holds φ P f h =
      pick_both P _ _ _ (λ e. f (c - w) (and_snd (leb w c) (φ (c - w)) e))
      (pick_both P _ _ _ (λ e. f (c - 1) (and_snd (ltb 0 (c % w)) (φ (c - 1)) e))
      (pick_both P _ _ _ (f c)
      (pick_both P _ _ _ (λ e. f (c + 1) (and_snd (ltb (c % w + 1) w) (φ (c + 1)) e)) (pick_both P _ _ _ (f (c + w)) h))))

  module _ (φ : ℕ → Bool) (d : ℕ) (good : φ d ≡ true) where
    -- Cell n is near, passes the test, and is not above d.
    abbrev Taken : ℕ → Type 0
    Taken n = (near w c n ≡ true) × (φ n ≡ true) × (n ≤ d)

    up_taken : c - w ≤ d → (leb w c && φ (c - w)) ≡ true → Taken (c - w)
    up_taken l e = (near_up (leb-true w c (and_fst (leb w c) (φ (c - w)) e)), and_snd (leb w c) (φ (c - w)) e, l)

    left_taken : c - 1 ≤ d → (ltb 0 (c % w) && φ (c - 1)) ≡ true → Taken (c - 1)
    left_taken l e =
        (near_left (ltb-true 0 (c % w) (and_fst (ltb 0 (c % w)) (φ (c - 1)) e)), and_snd (ltb 0 (c % w)) (φ (c - 1)) e, l)

    here_taken : c ≤ d → φ c ≡ true → Taken c
    here_taken l e = (near_same w c, e, l)

    right_taken : c + 1 ≤ d → (ltb (c % w + 1) w && φ (c + 1)) ≡ true → Taken (c + 1)
    right_taken l e =
        (near_right (ltb-true (c % w + 1) w (and_fst (ltb (c % w + 1) w) (φ (c + 1)) e)), and_snd (ltb (c % w + 1) w) (φ (c + 1)) e, l)

    down_taken : c + w ≤ d → φ (c + w) ≡ true → Taken (c + w)
    down_taken l e = (near_down, e, l)

    -- Where some near cell passes the test, the first is near, passes it, and is the smallest.
    pub first_best : near w c d ≡ true → (near w c (first_near φ w c) ≡ true) × (φ (first_near φ w c) ≡ true) × (first_near φ w c ≤ d)
    unfolding first_near
    first_best e = go (near_candidate d e)
      where
        go : Candidate w c d → Taken (first_near φ w c)
        go (up h q) = pick_first Taken _ _ _ test (up_taken (omega arith) test)
          where
            test : (leb w c && φ (c - w)) ≡ true
            test = and_both (le-leb w c h) (rw q at good)
        go (left h q) =
            pick_both Taken _ _ _ (up_taken (omega arith)) (pick_first Taken _ _ _ test (left_taken (omega arith) test))
          where
            test : (ltb 0 (c % w) && φ (c - 1)) ≡ true
            test = and_both (lt-ltb 0 (c % w) h) (rw q at good)
        go (here q) =
            pick_both Taken _ _ _ (up_taken (omega arith))
            (pick_both Taken _ _ _ (left_taken (omega arith))
            (pick_first Taken _ _ _ (rw q at good) (here_taken (omega arith) (rw q at good))))
        go (right h q) =
            pick_both Taken _ _ _ (up_taken (omega arith))
            (pick_both Taken _ _ _ (left_taken (omega arith))
            (pick_both Taken _ _ _ (here_taken (omega arith)) (pick_first Taken _ _ _ test (right_taken (omega arith) test))))
          where
            test : (ltb (c % w + 1) w && φ (c + 1)) ≡ true
            test = and_both (lt-ltb (c % w + 1) w h) (rw q at good)
        go (down q) =
            pick_both Taken _ _ _ (up_taken (omega arith))
            (pick_both Taken _ _ _ (left_taken (omega arith))
            (pick_both Taken _ _ _ (here_taken (omega arith))
            (pick_both Taken _ _ _ (right_taken (omega arith))
            (pick_first Taken _ _ _ (rw q at good) (down_taken (omega arith) (rw q at good))))))
