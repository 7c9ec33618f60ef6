-- A sheet that was written stands in front of the memory, and is that of the map's floor.
use Prim.Native.Nat.{ℕ, ◌+◌, ◌≤◌, ◌<◌}
use native.Mathlib.Omega.{arith}
use mathlib.Core.Path.{◌≡◌, sym, ◌∙◌, ap}
use mathlib.Core.List.{List, ◌++◌}
use borrow.Author.Count.{below_more}
use lib.ListN.{length, take, drop, get_or, set, length-append}
use lib.Seq.{length-take-le, take-length, take_at, get_or-set_same, get_or-set_other}
use Rattle.laws.specs.Verdict.{passed}
use Rattle.laws.proofs.VerdictLaws.{then_both, when_passed_lem}
use Rattle.laws.proofs.PutLaws.{put_front}
use Rattle.floor.specs.declared.Floor.{Floor}
use Rattle.sheet.specs.Text.{sheet_of, sheet_length}
use Rattle.sheet.specs.Read.{write_verdict, write_sheet}
use Rattle.sheet.proofs.Theorems.{theorems as sheet-theorems}
use Rattle.reporting.specs.Put.{PutAt}
use Rattle.map_reader.specs.declared.rows.Shape.{Shape}
use Rattle.map_reader.specs.declared.problems.Problem.{Problem}
use Rattle.std.specs.Prelude.{Result}
use Rattle.std.proofs.lemmas.Result.{IfOk-weaker}
use Rattle.map_reader.specs.Marks.{is_wall, cells_where}
use Rattle.map_reader.specs.Told.{Filled, CarriersFrom, SheetIn, ToldIn}
use Rattle.map_reader.specs.Inner.{RowsIn, Written, ToldOf}

-- A loop that fills an array: before the first, and one more.
pub fill_start : (φ : ℕ → ℕ) (xs : List ℕ) → Filled φ xs 0
unfolding Filled
fill_start φ xs i l = absurd (omega arith)

pub fill_more : (φ : ℕ → ℕ) (xs : List ℕ) (k x : ℕ) → Filled φ xs k → x ≡ φ k → k < length xs → Filled φ (set xs k x) (k + 1)
unfolding Filled
fill_more φ xs k x h e l =
    below_more (λ (i : ℕ). get_or (set xs k x) i 0 ≡ φ i) k
    (λ i b. get_or-set_other xs k i x 0 (λ z. absurd (omega arith)) ∙ h i b) (get_or-set_same xs k x 0 l ∙ e)

pub sheet_told : (f : Floor) (ws old new : List ℕ) (n : ℕ) → write_verdict f ws (length old) ≡ passed → new ≡ write_sheet f ws old →
    n ≡ sheet_length f → Written f ws new n
unfolding write_verdict write_sheet
sheet_told f ws old new n e w s =
    let written : new ≡ sheet_of f ws ++ drop (sheet_length f) old = w ∙ when_passed_lem old e in
    let size : length (sheet_of f ws) ≡ n = sheet-theorems.sheet_length_lem f ws ∙ sym s in
    let there : n ≤ length new = omega (arith, ap length written, length-append (sheet_of f ws) (drop (sheet_length f) old)) in
    record {
      passes = (then_both _ _ e).0;
      counts = (there, sym (length-take-le n new there));
      bytes = ap (take n) written ∙ take_at (sheet_of f ws) (drop (sheet_length f) old) n size;
    }

pub map_told : (text marks table old walls out : List ℕ) (k : ℕ) (f : Floor) (y : Shape) (z : Result ℕ Problem) → RowsIn text marks y →
    (f.width ≡ y.width) × (f.height ≡ y.height) → CarriersFrom marks table (length marks) f →
    PutAt (cells_where (is_wall marks) (length marks)) old 0 walls k → k ≤ length old → ToldOf f (take k walls) out z → ToldIn text out z
map_told text marks table old walls out k f y z rows sizes carriers p l =
    IfOk-weaker z (λ n. Written f (take k walls) out n) (λ n. SheetIn text out n) (λ n w. record {
      floor = f;
      walls = take k walls;
      passes = w.passes;
      counts = w.counts;
      bytes = w.bytes;
      map = record {
        first = rows.first;
        cells = length marks;
        marks = marks;
        table = table;
        rows = take-length _ ∙ rw (sizes.0, sizes.1) rows.rows;
        walls = (put_front old walls (cells_where (is_wall marks) (length marks)) k p.bytes (omega (arith, p.behind)) (omega (arith, p.behind))).1;
        carriers = carriers;
      };
    })
