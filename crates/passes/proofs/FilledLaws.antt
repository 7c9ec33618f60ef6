-- Rows that are filled from some row on with one number.
use Prim.Native.Nat.{ℕ, ◌+◌, ◌-◌, ◌≤◌, ◌<◌}
use native.Mathlib.Omega.{arith}
use mathlib.Core.List.{List}
use mathlib.Core.Logic.{inl, inr, ⊎_elim}
use mathlib.Core.Path.{◌≡◌, sym, ap, ◌∙◌, refl}
use lib.ListN.{length, get_or, replicate, length-replicate, get_or-replicate}
use lib.Seq.{ext_get_or, take_all}
use borrow.Rule.Slice.PartMut.{put_mid}
use Rattle.laws.proofs.Tests.{lt_or_le}
use Rattle.bitrows.specs.Rows.{filled, written}
use Rattle.bitrows.proofs.FillLaws.{length_filled, filled_in, filled_out, length_written, written_in, written_out, written_copied}

-- Where from row i on the value is that of row i, the rows from there up to row m are filled with it.
pub filled_on : (rows : List ℕ) (value : ℕ → ℕ) (i m : ℕ) (then ys : List ℕ) → i < m → m ≤ length rows →
    then ≡ filled rows value (i + 1) → ((j : ℕ) → i ≤ j → value j ≡ value i) → ys ≡ replicate (m - i) (value i) →
    put_mid i (m - i) then ys ≡ filled rows value m
filled_on rows value i m then ys l few old stays e =
    written_copied then i line ys n n fits (omega (arith, long)) refl (e ∙ sym (take_all n line (omega (arith, long))))
    ∙ ext_get_or 0 (written then i line n) (filled rows value m)
    (length_written then i line n ∙ size ∙ sym (length_filled rows value m)) same
  where
    n : ℕ
    n = m - i

    line : List ℕ
    line = replicate n (value i)

    long : length line ≡ n
    long = length-replicate {A = ℕ} n (value i)

    size : length then ≡ length rows
    size = ap length old ∙ length_filled rows value (i + 1)

    fits : i + n ≤ length then
    fits = omega (arith, size)

    before : (j : ℕ) → j < i + 1 → get_or then j 0 ≡ value j
    before j h = ap (λ (r : List ℕ). get_or r j 0) old ∙ filled_in rows value (i + 1) j (omega arith) h

    beyond : (j : ℕ) → m ≤ j → get_or then j 0 ≡ get_or rows j 0
    beyond j h = ap (λ (r : List ℕ). get_or r j 0) old ∙ filled_out rows value (i + 1) j (omega arith)

    inside : (j : ℕ) → i ≤ j → j < m → get_or (written then i line n) j 0 ≡ value j
    inside j h k =
        let place : i + (j - i) ≡ j = omega arith in
        (rw place at (written_in then i line n (j - i) fits (omega arith)))
        ∙ get_or-replicate n (j - i) (value i) 0 (omega arith)
        ∙ sym (stays j h)

    same : (j : ℕ) → j < length (written then i line n) → get_or (written then i line n) j 0 ≡ get_or (filled rows value m) j 0
    same j _ =
        ⊎_elim
        (λ (h : j < m).
        ⊎_elim (λ (k : j < i). written_out then i line n j (inl k) ∙ before j (omega arith)) (λ (k : i ≤ j). inside j k h) (lt_or_le j i)
        ∙ sym (filled_in rows value m j few h))
        (λ (h : m ≤ j).
        written_out then i line n j (inr (omega arith)) ∙ beyond j h ∙ sym (filled_out rows value m j h))
        (lt_or_le j m)
