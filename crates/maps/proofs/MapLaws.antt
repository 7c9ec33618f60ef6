-- The lines of a map, and its length.
use Prim.Native.Nat.{ℕ, zero, suc, ◌+◌, ◌*◌, ◌≤◌, ◌<◌}
use native.Mathlib.Omega.{arith}
use native.Mathlib.Nat.{mul-le-mul}
use mathlib.Core.Bool.{true, false}
use mathlib.Core.Path.{◌≡◌, refl, ◌∙◌}
use mathlib.Core.List.{List, [], ◌∷◌, ◌++◌}
use lib.Dec.{ltb}
use lib.ListN.{length, take, drop, length-append, length-take}
use Rattle.laws.specs.Memory.{part}
use Rattle.laws.specs.Verdict.{passed}
use Rattle.laws.proofs.VerdictLaws.{then_both}
use Rattle.reporting.proofs.WordsLaws.{short_within}
use Rattle.reporting.specs.Words.{short_decimal}
use Rattle.floor.specs.declared.Floor.{Floor}
use Rattle.floor.specs.Checks.{check_of, places_of}
use Rattle.floor.proofs.LimitsLaws.{check_tells}
use Rattle.floor.proofs.DockLaws.{passed_counted}
use Rattle.sheet.specs.Text.{lines_of}
use Rattle.printing.proofs.LinesLaws.{lines_within}
use Rattle.reporting.specs.Put.{PutAt}
use Rattle.reporting.proofs.ReportLaws.{put_behind}
use Rattle.maps.specs.Text.{marks_text, row_of, grid_of}
use Rattle.maps.specs.Map.{horizon_words, depth_words, map_head, map_rows, marks_of, letter_of, letter_line, map_of}
use Rattle.maps.specs.Inner.{Markable}
use Rattle.maps.proofs.MarkLaws.{cond_there, cond_away, cond_short, marks_short}

-- A row and the grid.
module _ (marks : List ℕ) (w : ℕ) where
  pub row_short : w ≤ 32 → (row : ℕ) → length (row_of marks w row) ≤ 33
  unfolding row_of part
  row_short l row = omega (arith, length-append (part marks (row * w) w) (10 ∷ []), length-take w (drop (row * w) marks))

  pub grid_short : w ≤ 32 → (h : ℕ) → h ≤ 32 → length (grid_of marks w h) ≤ 1056
  unfolding grid_of
  grid_short l h k = omega (arith, lines_within (row_of marks w) 33 h (row_short l))

-- A row: the marks, and a newline behind them.
pub row_put : (marks : List ℕ) (base w k at a n : ℕ) (old m₁ new : List ℕ) → PutAt (take k (drop base marks)) old at m₁ a → k ≡ w →
    PutAt (10 ∷ []) m₁ a new n → w ≤ 32 → at + 33 ≤ length old → PutAt (part marks base w ++ (10 ∷ [])) old at new n
unfolding part
row_put marks base w k at a n old m₁ new p e q l h =
    rw (← e) (put_behind p q (omega (arith, p.behind, q.behind, length-take k (drop base marks))))

-- The cells of a row lie among 1,024.
pub row_cells : (n w h : ℕ) → w ≤ 32 → h ≤ 32 → n < h → n * w + w ≤ 1024
row_cells n w h l k b =
    let low : n ≤ 31 = omega arith in
    omega (arith, mul-le-mul low l)

-- The marks of 1,024 cells are 1,024 bytes.
pub marks_length : (mark : ℕ → ℕ) (n : ℕ) → length (marks_text mark n) ≡ n
unfolding marks_text lines_of
marks_length mark n = go n
  where
    go : (k : ℕ) → length (lines_of (λ (c : ℕ). mark c ∷ []) k) ≡ k
    go zero = refl
    go (suc k) = length-append (lines_of (λ (c : ℕ). mark c ∷ []) k) (mark k ∷ []) ∙ omega (arith, go k)

-- Line 1: five texts, one behind the other.
pub head_put : (f : Floor) (at n₁ n₂ n₃ n₄ n : ℕ) (old m₁ m₂ m₃ m₄ new : List ℕ) → PutAt horizon_words old at m₁ n₁ →
    PutAt (short_decimal f.horizon) m₁ n₁ m₂ n₂ → PutAt depth_words m₂ n₂ m₃ n₃ → PutAt (short_decimal f.depth) m₃ n₃ m₄ n₄ →
    PutAt (10 ∷ []) m₄ n₄ new n → at + 20 ≤ length old → PutAt (map_head f) old at new n
unfolding map_head horizon_words depth_words
head_put f at n₁ n₂ n₃ n₄ n old m₁ m₂ m₃ m₄ new p q r s t l =
    let h = short_within f.horizon in
    let e = short_within f.depth in
    let one : PutAt (horizon_words ++ short_decimal f.horizon) old at m₂ n₂ = put_behind p q (omega (arith, p.behind, q.behind)) in
    let two : PutAt ((horizon_words ++ short_decimal f.horizon) ++ depth_words) old at m₃ n₃ =
    put_behind one r (omega (arith, p.behind, q.behind, r.behind)) in
    let three : PutAt (((horizon_words ++ short_decimal f.horizon) ++ depth_words) ++ short_decimal f.depth) old at m₄ n₄ =
    put_behind two s (omega (arith, p.behind, q.behind, r.behind, s.behind)) in
    put_behind three t (omega (arith, p.behind, q.behind, r.behind, s.behind, t.behind))

pub head_short : (f : Floor) → length (map_head f) ≤ 20
unfolding map_head horizon_words depth_words
head_short f =
    omega (
      arith,
      length-append (((horizon_words ++ short_decimal f.horizon) ++ depth_words) ++ short_decimal f.depth) (10 ∷ []),
      length-append ((horizon_words ++ short_decimal f.horizon) ++ depth_words) (short_decimal f.depth),
      length-append (horizon_words ++ short_decimal f.horizon) depth_words,
      length-append horizon_words (short_decimal f.horizon),
      short_within f.horizon,
      short_within f.depth,
    )

-- The line of a cell that is more than one thing, and that of another.
letter_text_short : (f : Floor) (c : ℕ) → f.carriers ≤ 8 → length (((letter_of f c ∷ 32 ∷ []) ++ marks_of f c) ++ (10 ∷ [])) ≤ 19
letter_text_short f c few =
    omega (
      arith,
      length-append ((letter_of f c ∷ 32 ∷ []) ++ marks_of f c) (10 ∷ []),
      length-append (letter_of f c ∷ 32 ∷ []) (marks_of f c),
      marks_short f c few,
    )

pub letter_short : (f : Floor) → f.carriers ≤ 8 → (c : ℕ) → length (letter_line f c) ≤ 19
unfolding letter_line
letter_short f few c = cond_short (ltb 1 (length (marks_of f c))) _ 19 (letter_text_short f c few)

pub letter_put : (f : Floor) (c at n₁ n₂ n : ℕ) (old m₁ m₂ new : List ℕ) → f.carriers ≤ 8 → ltb 1 (length (marks_of f c)) ≡ true →
    PutAt (letter_of f c ∷ 32 ∷ []) old at m₁ n₁ → PutAt (marks_of f c) m₁ n₁ m₂ n₂ → PutAt (10 ∷ []) m₂ n₂ new n → at + 19 ≤ length old →
    PutAt (letter_line f c) old at new n
unfolding letter_line
letter_put f c at n₁ n₂ n old m₁ m₂ new few e p q r l =
    let short = marks_short f c few in
    cond_there _ _ _ _ _ _ e
    (put_behind (put_behind p q (omega (arith, p.behind, q.behind))) r (omega (arith, p.behind, q.behind, r.behind)))

pub letter_away : (f : Floor) (c at : ℕ) (old : List ℕ) → ltb 1 (length (marks_of f c)) ≡ false → PutAt (letter_line f c) old at old at
unfolding letter_line
letter_away f c at old e = cond_away _ _ _ _ e

-- What the map of an accepted floor needs.
module _ (f : Floor) (ws : List ℕ) (ok : check_of f ws ≡ passed) where
  pub markable : Markable f
  unfolding places_of
  markable =
      record {
        few = (check_tells f ws ok).bounds.carriers.1;
        counted = passed_counted f (then_both _ _ (check_tells f ws ok).places).0;
      }

  pub cells_low : f.width * f.height ≤ 1024
  cells_low =
      let b = (check_tells f ws ok).bounds in
      omega (arith, mul-le-mul b.width.1 b.height.1)

  pub rows_short : length (map_rows f ws) ≤ 1056
  unfolding map_rows
  rows_short =
      let b = (check_tells f ws ok).bounds in
      grid_short _ f.width b.width.1 f.height b.height.1

  letters_short : length (lines_of (letter_line f) (f.width * f.height)) ≤ 19456
  letters_short =
      let few = (check_tells f ws ok).bounds.carriers.1 in
      omega (arith, cells_low, lines_within (letter_line f) 19 (f.width * f.height) (letter_short f few))

  pub map_short : length (map_of f ws) ≤ 20532
  unfolding map_of
  map_short =
      omega (
        arith,
        length-append (map_head f ++ map_rows f ws) (lines_of (letter_line f) (f.width * f.height)),
        length-append (map_head f) (map_rows f ws),
        head_short f,
        rows_short,
        letters_short,
      )

  -- The map: three texts, one behind the other.
  pub map_put : (at n₁ n₂ n : ℕ) (old m₁ m₂ new : List ℕ) → PutAt (map_head f) old at m₁ n₁ → PutAt (map_rows f ws) m₁ n₁ m₂ n₂ →
      PutAt (lines_of (letter_line f) (f.width * f.height)) m₂ n₂ new n → at + 20532 ≤ length old → PutAt (map_of f ws) old at new n
  unfolding map_of
  map_put at n₁ n₂ n old m₁ m₂ new p q r l =
      let h = head_short f in
      let g = rows_short in
      let k = letters_short in
      put_behind (put_behind p q (omega (arith, p.behind, q.behind))) r (omega (arith, p.behind, q.behind, r.behind))
