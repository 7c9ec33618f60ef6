-- The cells for which a test holds: loops that count, list or look for them.
use Prim.Native.Nat.{ℕ, zero, suc, ◌+◌, ◌≤◌, ◌<◌}
use native.Mathlib.Omega.{arith}
use native.Mathlib.Numerals.{add-one}
use mathlib.Core.Bool.{Bool, true, false, cond}
use mathlib.Core.Path.{◌≡◌, refl, sym, ◌∙◌, ap}
use mathlib.Core.List.{List, [], ◌∷◌, ◌++◌, append-nil}
use borrow.Author.Count.{below_more}
use lib.ListN.{length, get_or, set, length-append, get_or-append, get_or-eq_default}
use lib.Seq.{get_or-append_seam}
use Rattle.laws.proofs.PutLaws.{put_one}
use Rattle.sheet.specs.Text.{lines_of}
use Rattle.reporting.specs.Put.{PutAt}
use Rattle.reporting.proofs.LinesLaws.{nothing_put, put_keeps, lines_start, lines_low, lines_more}
use Rattle.maps.proofs.MarkLaws.{cond_short}
use Rattle.map_reader.specs.Marks.{cells_where}

module _ (φ : ℕ → Bool) where
  -- One more cell.
  pub where_there : (c : ℕ) → φ c ≡ true → cells_where φ (suc c) ≡ cells_where φ c ++ (c ∷ [])
  unfolding cells_where lines_of
  where_there c e = rw (lines_of, e)

  pub where_away : (c : ℕ) → φ c ≡ false → cells_where φ (suc c) ≡ cells_where φ c
  unfolding cells_where lines_of
  where_away c e = rw (lines_of, e) (append-nil _)

  -- A loop that counts them: before the first, one more, one that is not, and after the last.
  pub count_start : 0 ≡ length (cells_where φ 0)
  unfolding cells_where lines_of
  count_start = refl

  pub count_there : (c k : ℕ) → k ≡ length (cells_where φ c) → φ c ≡ true → k + 1 ≡ length (cells_where φ (c + 1))
  count_there c k e h =
      rw (add-one c, where_there c h) (omega (arith, length-append (cells_where φ c) (c ∷ [])))

  pub count_away : (c k : ℕ) → k ≡ length (cells_where φ c) → φ c ≡ false → k ≡ length (cells_where φ (c + 1))
  count_away c k e h = rw (add-one c, where_away c h) e

  pub count_end : (n c k : ℕ) → k ≡ length (cells_where φ c) → c ≤ n → n ≤ c → k ≡ length (cells_where φ n)
  count_end n c k e a b = let same : c ≡ n = omega arith in rw same at e

  -- A cell for which the test holds stands behind those below it.
  more_low : (n : ℕ) → length (cells_where φ n) ≤ length (cells_where φ (suc n))
  unfolding cells_where lines_of
  more_low n = omega (arith, length-append (lines_of (λ (c : ℕ). cond (φ c) (c ∷ []) []) n) (cond (φ n) (n ∷ []) []))

  abbrev CellListed : (n c : ℕ) → Type 0
  CellListed n c =
      φ c ≡ true → (length (cells_where φ c) < length (cells_where φ n)) × (get_or (cells_where φ n) (length (cells_where φ c)) 0 ≡ c)

  stands : (n c : ℕ) → c < n → CellListed n c
  unfolding cells_where lines_of
  stands zero c l = absurd (omega arith)
  stands (suc n) c l = below_more (CellListed (suc n)) n (λ i h e. kept i (stands n i h e)) last c (omega arith)
    where
      kept : (i : ℕ) → (length (cells_where φ i) < length (cells_where φ n)) × (get_or (cells_where φ n) (length (cells_where φ i)) 0 ≡ i) →
          (length (cells_where φ i) < length (cells_where φ (suc n))) × (get_or (cells_where φ (suc n)) (length (cells_where φ i)) 0 ≡ i)
      kept i w = (
        omega (arith, w.0, more_low n),
        get_or-append (cells_where φ n) (cond (φ n) (n ∷ []) []) 0 (length (cells_where φ i)) w.0 ∙ w.1,
      )

      last : φ n ≡ true →
          (length (cells_where φ n) < length (cells_where φ (suc n))) × (get_or (cells_where φ (suc n)) (length (cells_where φ n)) 0 ≡ n)
      last e = (
        omega (arith, ap length (where_there n e), length-append (cells_where φ n) (n ∷ [])),
        ap (λ (xs : List ℕ). get_or xs (length (cells_where φ n)) 0) (where_there n e) ∙ get_or-append_seam (cells_where φ n) n [] 0,
      )

  -- A loop that looks for the cell with k before it: it is there, or there is none.
  pub nth_there : (n c k b : ℕ) → c < n → φ c ≡ true → b ≡ length (cells_where φ c) → b ≡ k → c ≡ get_or (cells_where φ n) k 0
  nth_there n c k b l e h g =
      sym (stands n c l e).1 ∙ ap (λ (j : ℕ). get_or (cells_where φ n) j 0) (sym h ∙ g)

  pub nth_past : (n k b : ℕ) → b ≡ length (cells_where φ n) → b ≤ k → 0 ≡ get_or (cells_where φ n) k 0
  nth_past n k b e l = sym (get_or-eq_default (cells_where φ n) 0 (omega arith))

  -- A loop that lists them in front of a memory: before the first, its number, its length, one more, one that is not, after the last.
  short : (c : ℕ) → length (cond (φ c) (c ∷ []) []) ≤ 1
  short c = cond_short (φ c) (c ∷ []) 1 (omega arith)

  module _ (old : List ℕ) where
    pub list_start : PutAt (cells_where φ 0) old 0 old 0
    unfolding cells_where
    list_start = lines_start _ 1 short old 0

    module _ (c k : ℕ) (mid : List ℕ) (e : PutAt (cells_where φ c) old 0 mid k) where
      pub list_low : k ≤ c
      unfolding cells_where
      list_low = omega (arith, lines_low _ 1 short old 0 c k mid e)

      pub list_keep : c ≤ length old → length mid ≡ length old
      list_keep l = put_keeps e (omega (arith, list_low))

      pub list_there : (new : List ℕ) (n : ℕ) → φ c ≡ true → new ≡ set mid k c → n ≡ k + 1 → c < length old →
          PutAt (cells_where φ (c + 1)) old 0 new n
      unfolding cells_where
      list_there new n h g s l =
          lines_more _ 1 short old 0 c k mid e n new
          (rw h (record { bytes = g ∙ put_one mid k c (omega (arith, list_low, list_keep (omega arith))); behind = s })) (omega arith)

      pub list_away : (new : List ℕ) (n : ℕ) → φ c ≡ false → new ≡ mid → n ≡ k → c < length old → PutAt (cells_where φ (c + 1)) old 0 new n
      unfolding cells_where
      list_away new n h g s l = lines_more _ 1 short old 0 c k mid e n new (rw (h, g, s) (nothing_put mid k)) (omega arith)

      pub list_end : (n : ℕ) → c ≤ n → n ≤ c → PutAt (cells_where φ n) old 0 mid k
      list_end n a b = let same : c ≡ n = omega arith in rw same at e
