-- The lines of a sheet as blocks: their lengths, and a line put field by field.
use Prim.Native.Nat.{ℕ, zero, suc, ◌+◌, ◌*◌, ◌≤◌, ◌<◌}
use native.Mathlib.Omega.{arith}
use native.Mathlib.Nat.{add-zero, mul-suc, mul-zero}
use native.Mathlib.Numerals.{add-one}
use borrow.Author.Rules.{rules}
use mathlib.Core.Path.{◌≡◌, refl, sym, ◌∙◌, ap}
use mathlib.Core.List.{List, [], ◌∷◌, ◌++◌}
use lib.ListN.{length, set, length-append}
use Rattle.floor.specs.declared.Floor.{Floor}
use Rattle.fields.specs.Field.{field_of}
use Rattle.sheet.specs.Text.{line_of, lines_of, head_line, wall_line}
use Rattle.laws.specs.Memory.{put}
use Rattle.laws.proofs.PutLaws.{put_none, put_length, put_next, put_one}

pub field_length : (x : ℕ) → length (field_of x) ≡ 5
unfolding field_of
field_length x = refl

-- A field behind a block.
pub field_next : (m m' m'' xs : List ℕ) (at n x : ℕ) → m' ≡ put m at xs → m'' ≡ put m' n (field_of x) → at + length xs ≡ n → n + 5 ≤ length m
    → m'' ≡ put m at (xs ++ field_of x)
field_next m m' m'' xs at n x e f s l = put_next m m' m'' xs (field_of x) at n e f s (rw field_length l)

-- A byte behind a block, and a newline.
pub byte_next : (x : ℕ) (m m' xs : List ℕ) (at n : ℕ) → m' ≡ put m at xs → at + length xs ≡ n → n < length m
    → set m' n x ≡ put m at (xs ++ (x ∷ []))
byte_next x m m' xs at n e s l =
    let size : length m' ≡ length m = ap length e ∙ put_length m xs at (omega arith) in
    put_next m m' (set m' n x) xs (x ∷ []) at n e (put_one m' n x (omega arith)) s (rw add-one l)

pub newline_next : (m m' xs : List ℕ) (at n : ℕ) → m' ≡ put m at xs → at + length xs ≡ n → n < length m
    → set m' n 10 ≡ put m at (xs ++ (10 ∷ []))
newline_next = byte_next 10

-- Lines of one length.
pub lines_length : (line : ℕ → List ℕ) (w : ℕ) → ((i : ℕ) → length (line i) ≡ w) → (k : ℕ) → length (lines_of line k) ≡ w * k
unfolding lines_of
lines_length line w h zero = sym (mul-zero w)
lines_length line w h (suc k) = rw (length-append, lines_length line w h k, h k, mul-suc)

pub head_length : (f : Floor) → length (head_line f) ≡ 31
unfolding head_line line_of field_of
head_length f = refl

pub wall_length : (width c : ℕ) → length (wall_line width c) ≡ 11
unfolding wall_line line_of field_of
wall_length width c = refl

-- Lines one behind the other, line i from column at i on: where they end; then a loop that puts them, one more and its length.
module _ (line : ℕ → List ℕ) (at : ℕ → ℕ) (behind : (i : ℕ) → at (suc i) ≡ at i + length (line i)) where
  pub lines_span : (k : ℕ) → at 0 + length (lines_of line k) ≡ at k
  unfolding lines_of
  lines_span zero = add-zero (at 0)
  lines_span (suc k) = rw length-append (omega (arith, behind k, lines_span k))

  pub lines_next : (m m' m'' : List ℕ) (i n : ℕ) → m' ≡ put m (at 0) (lines_of line i) → m'' ≡ put m' n (line i) → n ≡ at i
      → at (suc i) ≤ length m → m'' ≡ put m (at 0) (lines_of line (i + 1))
  unfolding lines_of
  lines_next m m' m'' i n e f s l =
      rw add-one
      (put_next m m' m'' (lines_of line i) (line i) (at 0) n e f (omega (arith, lines_span i, s)) (omega (arith, behind i, s, l)))

  pub lines_keep : (m m' : List ℕ) (i : ℕ) → at i ≤ length m → m' ≡ put m (at 0) (lines_of line i) → length m' ≡ length m
  lines_keep m m' i l e = ap length e ∙ put_length m (lines_of line i) (at 0) (omega (arith, lines_span i, l))

-- The same of lines of one length.
module _ (line : ℕ → List ℕ) (w at : ℕ) (size : (i : ℕ) → length (line i) ≡ w) where
  pub even_next : (m m' m'' : List ℕ) (i n : ℕ) → m' ≡ put m at (lines_of line i) → m'' ≡ put m' n (line i) → at + w * i ≡ n
      → n + w ≤ length m → m'' ≡ put m at (lines_of line (i + 1))
  unfolding lines_of
  even_next m m' m'' i n e f s l =
      rw add-one
      (put_next m m' m'' (lines_of line i) (line i) at n e f (rw (lines_length line w size i) s) (rw (size i) l))

  pub even_keep : (m m' : List ℕ) (i : ℕ) → at + w * i ≤ length m → m' ≡ put m at (lines_of line i) → length m' ≡ length m
  even_keep m m' i l e = ap length e ∙ put_length m (lines_of line i) at (rw (lines_length line w size i) l)

-- Before the first line and after the last.
module _ (line : ℕ → List ℕ) (m : List ℕ) (at : ℕ) where
  pub lines_start : m ≡ put m at (lines_of line 0)
  unfolding lines_of
  lines_start = put_none m at

  pub lines_end : (m' : List ℕ) (i k : ℕ) → m' ≡ put m at (lines_of line i) → i ≤ k → k ≤ i → m' ≡ put m at (lines_of line k)
  lines_end m' i k h a b =
      let e : i ≡ k = omega arith in
      rw e at h

-- What the first and the last answer of such a loop take.
pub ruleset lines = (rules, lines_start, lines_end)
