-- Cells as columns and rows.
use Prim.Native.Nat.{ℕ, suc, ◌+◌, ◌*◌, ◌/◌, ◌%◌, ◌≤◌, ◌<◌}
use native.Mathlib.Omega.{arith}
use native.Mathlib.Nat.{mod-lt, mod-eq_of_lt, div-eq_of_lt, div-add-mod', div-lt_iff_lt-mul, mul-add-mod_self_right}
use native.Mathlib.Nat.{mul-add-div_right, mul_comm, add-zero, mul-le-mul_right, suc-mul}
use native.Mathlib.Decide.{dec_lt}
use mathlib.Core.Path.{◌≡◌, ◌∙◌}
use mathlib.Core.Bool.{cond, ◌&&◌, and-false}
use mathlib.Core.List.{List}
use borrow.Author.Tests.{lt-ltb, le-ltb}
use lib.Dec.{ltb}
use Rattle.fields.specs.Field.{number_at}
use Rattle.sheet.specs.Values.{value_at, cell_of}

-- A value below 65535 is the number in the text.
pub value_number : (text : List ℕ) (at : ℕ) → value_at text at < 65535 → value_at text at ≡ number_at text at
unfolding value_at
value_number text at l = omega arith

-- A number below 65535 is the value that a record holds.
pub number_value : (text : List ℕ) (at x : ℕ) → x < 65535 → number_at text at ≡ x → value_at text at ≡ x
unfolding value_at
number_value text at x l e = rw e (omega arith)

-- A column and a row within the grid give a cell of the grid, which gives them back.
pub record CellTells (width height col row : ℕ) : Type 0 where
  pub column : col < width
  pub row_in : row < height
  pub cell : cell_of width height col row ≡ row * width + col

-- Only a column and a row within the grid give a cell of the grid.
pub cell_tells : (width height col row : ℕ) → cell_of width height col row < width * height → CellTells width height col row
unfolding cell_of
cell_tells width height col row = go (dec_lt col width) (dec_lt row height)
  where
    go : Dec (col < width) → Dec (row < height)
        → cond (ltb col width && ltb row height) (row * width + col) (width * height) < width * height → CellTells width height col row
    go (yes a) (yes b) l = record { column = a; row_in = b; cell = rw (lt-ltb col width a, lt-ltb row height b) }
    go (yes a) (no b) l = absurd (omega (arith, rw (le-ltb row height (omega arith), and-false (ltb col width)) at l))
    go (no a) b l = absurd (omega (arith, rw (le-ltb col width (omega arith)) at l))

-- A column and a row within the grid give a cell of it.
pub cell_in : (width height col row : ℕ) → col < width → row < height → cell_of width height col row < width * height
unfolding cell_of
cell_in width height col row a b =
    let rows : suc row * width ≤ height * width = mul-le-mul_right width b in
    rw (lt-ltb col width a, lt-ltb row height b, mul_comm width height) (omega (arith, suc-mul row width))

-- The column and the row of a cell number.
pub cell_column : (width col row : ℕ) → col < width → (row * width + col) % width ≡ col
cell_column width col row l = mul-add-mod_self_right row width col ∙ mod-eq_of_lt l

pub cell_row : (width col row : ℕ) → col < width → (row * width + col) / width ≡ row
cell_row width col row l = mul-add-div_right (omega arith) row col ∙ rw (div-eq_of_lt l) (add-zero row)

-- A cell of the grid, from its column and its row.
pub cell_of_cell : (width height c : ℕ) → c < width * height → 0 < width → cell_of width height (c % width) (c / width) ≡ c
unfolding cell_of
cell_of_cell width height c l z =
    let col : c % width < width = mod-lt c z in
    let row : c / width < height = (div-lt_iff_lt-mul z).1 (rw mul_comm l) in
    rw (lt-ltb _ _ col, lt-ltb _ _ row) (div-add-mod' c width)
