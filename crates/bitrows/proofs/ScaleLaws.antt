-- A cell's row without a division: for numbers below 1024 and widths to 32, a product and a shift by 16 places divide by the width.
use Prim.Native.Nat.{ℕ, ◌+◌, ◌*◌, ◌-◌, ◌/◌, ◌%◌, ◌≤◌, ◌<◌}
use native.Mathlib.Omega.{arith}
use native.Mathlib.Nat.{mod-lt, div-add-mod', mul_comm, mul-add, add-mul, mul_assoc, mul-le-mul, mul-le-mul_left, mul-le-mul_right}
use mathlib.Core.Path.{◌≡◌, sym, ap, ◌∙◌}
use lib.Arith.{digits_div}

-- The scale is at least 2049 and at most 65537.
pub scale_bounds : (w : ℕ) → 1 ≤ w → w ≤ 32 → (2048 ≤ 65536 / w) × (65536 / w ≤ 65536)
scale_bounds w h l = (omega (arith, whole, rest, most), omega (arith, whole, least))
  where
    whole : 65536 / w * w + 65536 % w ≡ 65536
    whole = div-add-mod' 65536 w

    rest : 65536 % w < w
    rest = mod-lt 65536 h

    most : 65536 / w * w ≤ 65536 / w * 32
    most = mul-le-mul_left (65536 / w) l

    least : 65536 / w * 1 ≤ 65536 / w * w
    least = mul-le-mul_left (65536 / w) h

-- The product fits.
pub product_small : (w c : ℕ) → 1 ≤ w → w ≤ 32 → c < 1024 → c * (65536 / w + 1) ≤ 1024 * 65537
product_small w c h l k = mul-le-mul few most
  where
    few : c ≤ 1024
    few = omega arith

    most : 65536 / w + 1 ≤ 65537
    most = omega (arith, (scale_bounds w h l).1)

-- With c = row * w + column and 65536 = part * w + rest the product c * (part + 1) is row * 65536 and what is left,
-- row * (w − rest) + column * (part + 1), is below 65536.
pub scaled : (w c : ℕ) → 1 ≤ w → w ≤ 32 → c < 1024 → c * (65536 / w + 1) / 65536 ≡ c / w
scaled w c h l k = ap (λ (n : ℕ). n / 65536) product ∙ digits_div row small
  where
    row : ℕ
    row = c / w

    column : ℕ
    column = c % w

    part : ℕ
    part = 65536 / w

    rest : ℕ
    rest = 65536 % w

    whole : part * w + rest ≡ 65536
    whole = div-add-mod' 65536 w

    cell : row * w + column ≡ c
    cell = div-add-mod' c w

    column_less : column < w
    column_less = mod-lt c h

    rest_less : rest < w
    rest_less = mod-lt 65536 h

    over : w * (part + 1) ≡ 65536 + (w - rest)
    over = omega (arith, mul-add w part 1, mul_comm w part, whole, rest_less)

    times : row * w * (part + 1) ≡ row * 65536 + row * (w - rest)
    times = mul_assoc row w (part + 1) ∙ ap (λ (n : ℕ). row * n) over ∙ mul-add row 65536 (w - rest)

    product : c * (part + 1) ≡ row * 65536 + (row * (w - rest) + column * (part + 1))
    product = ap (λ (n : ℕ). n * (part + 1)) (sym cell) ∙ add-mul (row * w) column (part + 1) ∙ omega (arith, times)

    below : (column + 1) * (part + 1) ≤ w * (part + 1)
    below = mul-le-mul_right (part + 1) (omega (arith, column_less))

    fewer : w - rest ≤ w
    fewer = omega arith

    shrunk : row * (w - rest) ≤ row * w
    shrunk = mul-le-mul_left row fewer

    small : row * (w - rest) + column * (part + 1) < 65536
    small =
        omega (arith, over, below, add-mul column 1 (part + 1), shrunk, cell, (scale_bounds w h l).0)
