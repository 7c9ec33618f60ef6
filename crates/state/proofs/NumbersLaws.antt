-- Numbers below a bound by their largest.
use Prim.Native.Nat.{ℕ, ◌+◌, ◌-◌, ◌≤◌, ◌<◌}
use Rattle.std.specs.Prelude.{max, min}
use Rattle.std.specs.List.{between}
use Rattle.std.proofs.lemmas.List.Edits.{length-between, get_or-between}
use native.Mathlib.Omega.{arith}
use native.Mathlib.Nat.{eq-or-lt_of_le}
use mathlib.Core.Bool.{Bool, true, false, ◌&&◌}
use mathlib.Core.List.{List}
use mathlib.Core.Logic.{◌⊎◌, inl, inr, ⊎_elim}
use mathlib.Core.Path.{◌≡◌, refl, sym, ◌∙◌, ap}
use borrow.Author.Tests.{lt-ltb, le-ltb, ltb-true, eq-eqb, eqb-true}
use lib.Dec.{ltb, eqb}
use lib.ListN.{get_or, length}
use Rattle.laws.proofs.Tests.{same_test, eq_or_ne, and_both, and_fst, and_snd, lt_or_le, false_fails}
use Rattle.laws.specs.Verdict.{each}
use Rattle.laws.proofs.HoldLaws.{each_holds, each_true, each_same}
use Rattle.encoding.specs.Valid.{cell_valid, cells_valid}
use Rattle.state.specs.Numbers.{Largest}

-- One more number.
pub largest_more : (xs : List ℕ) (n p x : ℕ) → Largest xs n p → x ≡ max p (get_or xs n 0) → Largest xs (n + 1) x
largest_more xs n p x old e = record { upper = upper; met = met old.met (eq_or_ne x p) }
  where
    upper : (t : ℕ) → t < n + 1 → get_or xs t 0 ≤ x
    upper t u =
        ⊎_elim (λ (s : t ≡ n). rw s (omega arith)) (λ (l : t < n). omega (arith, old.upper t l)) (eq-or-lt_of_le (omega arith))

    met : (p ≡ 0) ⊎ ((t : ℕ) × (t < n) × (get_or xs t 0 ≡ p)) → (x ≡ p) ⊎ (x ≡ p → ⊥)
        → (x ≡ 0) ⊎ ((t : ℕ) × (t < n + 1) × (get_or xs t 0 ≡ x))
    met (inl z) (inl s) = inl (s ∙ z)
    met (inr (t, l, q)) (inl s) = inr (t, omega arith, q ∙ sym s)
    met k (inr s) = inr (n, omega arith, omega arith)

-- Each of the numbers is below a bound.
abbrev pub each_below : List ℕ → ℕ → Bool
each_below xs b = each (length xs) (λ t. ltb (get_or xs t 0) b)

-- They are exactly if the largest is.
pub below_largest : (xs : List ℕ) (b k : ℕ) → (length xs ≡ 0 → ⊥) → Largest xs (length xs) k → ltb k b ≡ each_below xs b
below_largest xs b k some most = same_test (ltb k b) (each_below xs b) says back
  where
    says : ltb k b ≡ true → each_below xs b ≡ true
    says h =
        each_true (length xs) (λ t. ltb (get_or xs t 0) b)
        (λ t l. lt-ltb (get_or xs t 0) b (omega (arith, most.upper t l, ltb-true k b h)))

    below : each_below xs b ≡ true → (t : ℕ) → t < length xs → get_or xs t 0 < b
    below h t l = ltb-true (get_or xs t 0) b (each_holds (length xs) (λ t. ltb (get_or xs t 0) b) h t l)

    found : (k ≡ 0) ⊎ ((t : ℕ) × (t < length xs) × (get_or xs t 0 ≡ k)) → each_below xs b ≡ true → k < b
    found (inl z) h = let y = below h 0 (omega arith) in omega arith
    found (inr (t, l, q)) h = let y = below h t l in omega arith

    back : each_below xs b ≡ true → ltb k b ≡ true
    back h = lt-ltb k b (found most.met h)

-- Of no numbers each is.
pub none_below : (xs : List ℕ) (b : ℕ) {x : Bool} → x ≡ eqb (length xs) 0 → x ≡ true → x ≡ each_below xs b
unfolding each
none_below xs b e h = let z : length xs ≡ 0 = eqb-true (length xs) 0 (sym e ∙ h) in rw z h

pub some_below : (xs : List ℕ) (b k : ℕ) {x : Bool} → x ≡ eqb (length xs) 0 → x ≡ false → Largest xs (length xs) k → ltb k b ≡ each_below xs b
some_below xs b k e h most = below_largest xs b k (λ z. false_fails h (e ∙ eq-eqb (length xs) 0 z)) most

module _ (m : List ℕ) (at : ℕ) where
  -- Of a part of a memory.
  part_below : (n : ℕ) (b : ℕ) → at + n ≤ length m → each_below (between at (at + n) m) b ≡ each n (λ t. ltb (get_or m (at + t) 0) b)
  part_below n b l =
      let long : length (between at (at + n) m) ≡ n = length-between m at (at + n) l ∙ omega arith in
      rw long
      (each_same n (λ t. ltb (get_or (between at (at + n) m) t 0) b) (λ t. ltb (get_or m (at + t) 0) b)
      (λ t k. ap (λ (x : ℕ). ltb x b) (get_or-between m at (at + n) t 0 (omega arith))))

-- The cells of a record: those that are used are in the grid, the others 0.
module _ (m : List ℕ) (at used cells n : ℕ) (cap : n ≡ min used 64) where
  abbrev front : Bool
  front = each n (λ t. ltb (get_or m (at + t) 0) cells)

  abbrev rest : Bool
  rest = each (64 - n) (λ t. ltb (get_or m (at + n + t) 0) 1)

  valid_used : (t x : ℕ) → t < used → cell_valid used cells t x ≡ ltb x cells
  unfolding cell_valid
  valid_used t x h = rw (lt-ltb t used h) refl

  valid_unused : (t x : ℕ) → used ≤ t → cell_valid used cells t x ≡ eqb x 0
  unfolding cell_valid
  valid_unused t x h = rw (le-ltb t used h) refl

  abbrev at_beat : ℕ → Bool
  at_beat t = cell_valid used cells t (get_or m (at + t) 0)

  both : (front && rest) ≡ cells_valid m at used cells
  unfolding cells_valid
  both = same_test (front && rest) (each 64 at_beat) says back
    where
      zero_at_lem : rest ≡ true → (t : ℕ) → n ≤ t → t < 64 → get_or m (at + t) 0 ≡ 0
      zero_at_lem h t l u =
          let z : at + n + (t - n) ≡ at + t = omega arith in
          let y : get_or m (at + n + (t - n)) 0 < 1 =
          ltb-true (get_or m (at + n + (t - n)) 0) 1 (each_holds (64 - n) (λ t. ltb (get_or m (at + n + t) 0) 1) h (t - n) (omega arith)) in
          let w : get_or m (at + t) 0 < 1 = rw z at y in
          omega arith

      says : (front && rest) ≡ true → each 64 at_beat ≡ true
      says h = each_true 64 at_beat (λ t u. ⊎_elim (within t) (behind t u) (lt_or_le t n))
        where
          within : (t : ℕ) → t < n → at_beat t ≡ true
          within t l =
              valid_used t (get_or m (at + t) 0) (omega arith)
              ∙ each_holds n (λ t. ltb (get_or m (at + t) 0) cells) (and_fst front rest h) t l

          behind : (t : ℕ) → t < 64 → n ≤ t → at_beat t ≡ true
          behind t u l =
              valid_unused t (get_or m (at + t) 0) (omega arith)
              ∙ eq-eqb (get_or m (at + t) 0) 0 (zero_at_lem (and_snd front rest h) t l u)

      back : each 64 at_beat ≡ true → (front && rest) ≡ true
      back h =
          and_both (each_true n (λ t. ltb (get_or m (at + t) 0) cells) within)
          (each_true (64 - n) (λ t. ltb (get_or m (at + n + t) 0) 1) behind)
        where
          within : (t : ℕ) → t < n → ltb (get_or m (at + t) 0) cells ≡ true
          within t l =
              sym (valid_used t (get_or m (at + t) 0) (omega arith)) ∙ each_holds 64 at_beat h t (omega arith)

          behind : (t : ℕ) → t < 64 - n → ltb (get_or m (at + n + t) 0) 1 ≡ true
          behind t l =
              let z : at + n + t ≡ at + (n + t) = omega arith in
              let y : eqb (get_or m (at + (n + t)) 0) 0 ≡ true =
              sym (valid_unused (n + t) (get_or m (at + (n + t)) 0) (omega arith))
              ∙ each_holds 64 at_beat h (n + t) (omega arith) in
              let x : get_or m (at + (n + t)) 0 ≡ 0 = eqb-true (get_or m (at + (n + t)) 0) 0 y in
              rw z (lt-ltb (get_or m (at + (n + t)) 0) 1 (omega arith))

  pub parts : at + 64 ≤ length m → (each_below (between at (at + n) m) cells && each_below (between (at + n) (at + 64) m) 1) ≡ cells_valid m at used cells
  parts l =
      let e : at + 64 ≡ at + n + (64 - n) = omega arith in
      rw (part_below m at n cells (omega arith), e, part_below m (at + n) (64 - n) 1 (omega arith)) both
