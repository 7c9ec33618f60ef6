-- Sets of cells as rows: a word a row, the digit of a cell being that of its column. One step of a set takes each cell to itself and to
-- the cells that share a side with it.
use Rattle.std.specs.Prelude.{ℕ, zero, suc, ◌+◌, ◌*◌, ◌/◌, ◌%◌, ◌^◌, ◌<◌, Bool, true, false, List, ◌≡◌, ltb, get_or, set}
use Rattle.std.specs.Int.Bits.{bit_and, bit_or}
use Rattle.bitrows.specs.Words.{digit, without}

-- The digit of a row at a column is 1.
unfoldable pub has : List ℕ → ℕ → ℕ → Bool
has rows row column = digit (get_or rows row 0) column

-- Rows with the first n as a function says.
unfoldable pub filled : List ℕ → (ℕ → ℕ) → ℕ → List ℕ
filled rows value zero = rows
filled rows value (suc n) = set (filled rows value n) n (value n)

-- A memory with the first n of some rows from word i on.
unfoldable pub written : List ℕ → ℕ → List ℕ → ℕ → List ℕ
written m i rows zero = m
written m i rows (suc n) = set (written m i rows n) (i + n) (get_or rows n 0)

-- Every digit of the rows is a cell of a grid of width w.
pub record Clean (w cells : ℕ) (rows : List ℕ) : Type 0 where
  pub thin : (row column : ℕ) → has rows row column ≡ true → column < w
  pub inside : (row column : ℕ) → has rows row column ≡ true → row * w + column < cells

-- Rows with the digit of a row at a column.
unfoldable pub added : List ℕ → ℕ → ℕ → List ℕ
added rows row column = set rows row (bit_or (get_or rows row 0) (2 ^ column))

-- Rows without the digit of a row at a column.
unfoldable pub dropped : List ℕ → ℕ → ℕ → List ℕ
dropped rows row column = set rows row (without (get_or rows row 0) (2 ^ column))

-- Rows without cell c of a grid of width w in the rows from row i on; a number that is no cell changes nothing.
unfoldable pub dropped_at : ℕ → ℕ → ℕ → ℕ → List ℕ → List ℕ
dropped_at w cells i c rows = elim (ltb c cells) [ true ↦ dropped rows (i + c / w) (c % w) | false ↦ rows ]

-- The digits of a mask that a step brings to a row from the row above, itself and the row below.
unfoldable pub successor_row : ℕ → ℕ → ℕ → ℕ → ℕ
successor_row over here under mask = bit_and (bit_or (bit_or (bit_or (bit_or here (here * 2 % 2 ^ 32)) (here / 2)) over) under) mask
