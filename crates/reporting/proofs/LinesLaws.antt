-- Lines put one behind the other by a loop.
use Prim.Native.Nat.{ℕ, ◌+◌, ◌*◌, ◌≤◌}
use native.Mathlib.Omega.{arith}
use native.Mathlib.Numerals.{add-one}
use mathlib.Core.Path.{◌≡◌, ap, ◌∙◌}
use mathlib.Core.List.{List, []}
use lib.ListN.{length}
use Rattle.laws.proofs.PutLaws.{put_none, put_length}
use Rattle.sheet.specs.Text.{lines_of}
use Rattle.printing.proofs.LinesLaws.{lines_within}
use Rattle.reporting.specs.Put.{PutAt}
use Rattle.reporting.proofs.ReportLaws.{put_behind}

-- Nothing put.
pub nothing_put : (old : List ℕ) (at : ℕ) → PutAt [] old at old at
nothing_put old at = record { bytes = put_none old at; behind = omega arith }

-- What is put keeps the length of a memory that has room for it.
pub put_keeps : {text old new : List ℕ} {at n : ℕ} → PutAt text old at new n → n ≤ length old → length new ≡ length old
put_keeps {text} {old} {new} {at} p l = ap length p.bytes ∙ put_length old text at (omega (arith, p.behind))

-- A loop that puts lines of at most w bytes from a column on: before the first, its column, its length, one more, and after the last.
module _ (line : ℕ → List ℕ) (w : ℕ) (short : (i : ℕ) → length (line i) ≤ w) (old : List ℕ) (at : ℕ) where
  pub lines_start : PutAt (lines_of line 0) old at old at
  unfolding lines_of
  lines_start = nothing_put old at

  module _ (k n : ℕ) (mid : List ℕ) (e : PutAt (lines_of line k) old at mid n) where
    pub lines_low : n ≤ at + k * w
    lines_low = omega (arith, e.behind, lines_within line w k short)

    pub lines_keep : at + k * w ≤ length old → length mid ≡ length old
    lines_keep l = put_keeps e (omega (arith, lines_low))

    pub lines_more : (next : ℕ) (new : List ℕ) → PutAt (line k) mid n new next → at + (k + 1) * w ≤ length old →
        PutAt (lines_of line (k + 1)) old at new next
    unfolding lines_of
    lines_more next new p l = rw add-one (put_behind e p (omega (arith, p.behind, short k, lines_low)))

    pub lines_end : (p : ℕ) → k ≤ p → p ≤ k → PutAt (lines_of line p) old at mid n
    lines_end p a b =
        let same : k ≡ p = omega arith in
        rw same at e
