-- Laws of reading: what it hands back with a pass and with a refusal, and what a pass tells.
use Prim.Native.Nat.{ℕ, ◌≤◌}
use mathlib.Core.Path.{◌≡◌, ap, ◌∙◌}
use mathlib.Core.List.{List}
use Rattle.floor.specs.declared.Floor.{Floor}
use Rattle.std.specs.Prelude.{⊤, Ok}
use Rattle.fields.specs.Reached.{said_by}
use Rattle.fields.proofs.ReachedLaws.{said_value}
use Rattle.laws.specs.Verdict.{Verdict, passed}
use Rattle.floor.specs.Checks.{places_of, long_enough, check_of}
use Rattle.floor.specs.Accepted.{CountsWithin}
use Rattle.floor.proofs.Theorems.{theorems}
use Rattle.laws.proofs.VerdictLaws.{then_both}
use Rattle.floor.proofs.AnswersLaws.{then_next}
use Rattle.floor.proofs.LimitsLaws.{length_passed}
use Rattle.sheet.specs.Values.{floor_at, walls_at}
use Rattle.sheet.specs.Read.{form_of, sheet_verdict, read_verdict}

-- Behind a sheet that is read 9 alone is left to be told.
pub length_left : (text : List ℕ) (f : Floor) (lent : ℕ) {u : ⊤} {y : Verdict} → said_by (Ok f) ≡ sheet_verdict text → f ≡ floor_at text
    → y ≡ long_enough f.walls lent → y ≡ read_verdict text lent
unfolding read_verdict
length_left text f lent told own h =
    then_next (said_value f told) (h ∙ ap (λ (f : Floor). long_enough f.walls lent) own)

-- A sheet that is read is in good form, its floor passes 3 to 6, and its walls fit the lent memory.
pub record ReadTells (text : List ℕ) (lent : ℕ) : Type 0 where
  pub form : form_of text ≡ passed
  pub places : places_of (floor_at text) (walls_at text) ≡ passed
  pub enough : (floor_at text).walls ≤ lent

pub read_tells : (text : List ℕ) (lent : ℕ) → read_verdict text lent ≡ passed → ReadTells text lent
unfolding read_verdict sheet_verdict
read_tells text lent h =
    let a = then_both _ _ h in
    let b = then_both _ _ a.0 in
    record { form = b.0; places = b.1; enough = length_passed _ _ a.1 }

-- The dock counts of a floor that the checks pass are within their limits.
pub accepted_counts : (f : Floor) (ws : List ℕ) → check_of f ws ≡ passed → CountsWithin f
accepted_counts f ws ok i l = (((theorems.passes_exactly f ws).0 ok).carriers_in_grid i l).0
