-- What is printed for a sheet: the text of its floor where it was read, the line of its refusal where it was refused.
use Prim.Native.Nat.{ℕ, ◌≤◌}
use native.Mathlib.Omega.{arith}
use mathlib.Core.Path.{◌≡◌, refl, ◌∙◌}
use mathlib.Core.List.{List}
use lib.ListN.{length, take}
use Rattle.io.specs.Counts.{IsPrefixLen}
use Rattle.laws.specs.Verdict.{Verdict, passed, refused, ◌then◌}
use Rattle.floor.specs.declared.Floor.{Floor}
use Rattle.floor.specs.declared.Refusal.{Refusal}
use Rattle.fields.specs.Reached.{said_by}
use Rattle.std.specs.Prelude.{Result, Ok, IfOk}
use Rattle.floor.specs.Checks.{check_of}
use Rattle.sheet.specs.Values.{floor_at, walls_at}
use Rattle.sheet.specs.Read.{sheet_verdict, read_verdict, read_floor, read_walls}
use Rattle.printing.specs.Print.{or_refusal}
use Rattle.printing.specs.Put.{TextPut}
use Rattle.printing.specs.Text.{refusal_line}
use Rattle.printing.proofs.PrintLaws.{WasRead, was_read, refusal_length}
use Rattle.reporting.proofs.TextLaws.{counted}

-- What the text of a floor that was read asks for: the floor is accepted, its walls are there, and what is asked besides.
pub read_granted : {x : Result Floor Refusal} {P : Type 0} (text old walls : List ℕ) (f : Floor)
    → (said_by x ≡ read_verdict text (length old)) × (IfOk x (λ f. f ≡ read_floor text (length old)) × (walls ≡ read_walls text old))
    → 1023 ≡ length old → x ≡ Ok f → P → (check_of f (take f.walls walls) ≡ passed) × ((f.walls ≤ length walls) × P)
read_granted text old walls f r wide told p = let w = was_read text old walls f wide r told in (w.checked, (w.lent, p))

-- What is printed of an accepted floor has at most `most` bytes.
pub record PrintsWithin (print : Floor → List ℕ → List ℕ) (most : ℕ) : Type 0 where
  pub short : (f : Floor) (ws : List ℕ) → check_of f ws ≡ passed → length (print f ws) ≤ most

-- A text that was put is the one that is printed for the sheet.
pub read_printed : {old new : List ℕ} {n most : ℕ} (text walls : List ℕ) (f : Floor) (print : Floor → List ℕ → List ℕ)
    → PrintsWithin print most
    → TextPut (print f (take f.walls walls)) old new n → WasRead text f walls → most ≤ length old
    → IsPrefixLen n new × (take n new ≡ or_refusal (sheet_verdict text) (print (floor_at text) (walls_at text)))
unfolding or_refusal
read_printed text walls f print within t r enough =
    let same : print f (take f.walls walls) ≡ print (floor_at text) (walls_at text) = rw (r.front, r.floor) refl in
    let c = counted _ _ _ _ t (omega (arith, within.short f (take f.walls walls) r.checked)) in
    (c.0, rw r.accepted (c.1 ∙ same))

pub refused_printed : {old new : List ℕ} {k p n : ℕ} (text final : List ℕ) → TextPut (refusal_line k p) old new n
    → sheet_verdict text ≡ refused k p → 16 ≤ length old → IsPrefixLen n new × (take n new ≡ or_refusal (sheet_verdict text) final)
unfolding or_refusal
refused_printed {k} {p} text final t h enough =
    let c = counted _ _ _ _ t (omega (arith, refusal_length k p)) in
    (c.0, rw h c.1)

-- A second verdict behind the sheet's.
pub or_then : (x y : Verdict) (xs : List ℕ) → or_refusal (x then y) xs ≡ or_refusal x (or_refusal y xs)
unfolding or_refusal ◌then◌
or_then passed y xs = refl
or_then (refused k p) y xs = refl
