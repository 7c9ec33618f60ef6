-- A memory of 11,732 bytes holds every sheet: what is written stands in front.
use Prim.Native.Nat.{ℕ, ◌+◌, ◌≤◌}
use native.Mathlib.Omega.{arith}
use mathlib.Core.Path.{◌≡◌, refl, sym, ap, ◌∙◌}
use mathlib.Core.List.{List, ◌++◌}
use borrow.Author.Tests.{le-leb}
use lib.ListN.{length, drop}
use Rattle.laws.specs.Memory.{put}
use Rattle.floor.specs.declared.Floor.{Floor}
use Rattle.laws.specs.Verdict.{Verdict, passed, refused, ◌then◌}
use Rattle.floor.specs.Checks.{check_of, long_enough}
use Rattle.laws.proofs.VerdictLaws.{demand_passes, when_passed_lem}
use Rattle.floor.proofs.LimitsLaws.{check_tells}
use Rattle.sheet.specs.Text.{sheet_of, sheet_length, wall_at}
use Rattle.sheet.specs.Values.{floor_at, walls_at}
use Rattle.sheet.specs.Read.{sheet_verdict, write_verdict, write_sheet}
use Rattle.sheet.proofs.Theorems.{theorems}
use Rattle.sheet.proofs.DockLaws.{carriers_high}
use Rattle.sheet.proofs.ReadLaws.{accepted_counts}
use Rattle.printing.specs.Print.{or_refusal}
use Rattle.printing.specs.Put.{TextPut}
use Rattle.reporting.proofs.PrintedLaws.{PrintsWithin}

-- The sheet of an accepted floor.
module _ (f : Floor) (ws : List ℕ) (ok : check_of f ws ≡ passed) where
  sheet_short : sheet_length f ≤ 11732
  unfolding sheet_length wall_at
  sheet_short =
      let b = (check_tells f ws ok).bounds in
      let high = carriers_high f f.carriers (λ i l. (accepted_counts f ws ok i l).1) in
      omega (arith, b.carriers.1, b.walls.1, high)

  granted : (lent : ℕ) → 11732 ≤ lent → write_verdict f ws lent ≡ passed
  unfolding write_verdict long_enough ◌then◌
  granted lent enough =
      let fits : sheet_length f ≤ lent = omega (arith, sheet_short) in
      rw ok (demand_passes 9 0 (le-leb _ _ fits))

  pub sheet_put : (old new : List ℕ) (n : ℕ) → 11732 ≤ length old → new ≡ write_sheet f ws old → n ≡ sheet_length f
      → TextPut (sheet_of f ws) old new n
  unfolding write_sheet put
  sheet_put old new n enough e l =
      let size = theorems.sheet_length_lem f ws in
      let behind : sheet_length f ≡ 0 + length (sheet_of f ws) = omega arith in
      record {
        bytes = e
            ∙ when_passed_lem _ (granted (length old) enough)
            ∙ ap (λ (k : ℕ). sheet_of f ws ++ drop k old) behind;
        size = l ∙ sym size;
      }

pub sheet_within : PrintsWithin sheet_of 11732
sheet_within = record { short = λ f ws ok. omega (arith, theorems.sheet_length_lem f ws, sheet_short f ws ok) }

-- The sheet of what was read is the text.
pub sheet_again : (text : List ℕ)
    → or_refusal (sheet_verdict text) text ≡ or_refusal (sheet_verdict text) (sheet_of (floor_at text) (walls_at text))
unfolding or_refusal
sheet_again text = go (sheet_verdict text) refl
  where
    go : (x : Verdict) → sheet_verdict text ≡ x → or_refusal x text ≡ or_refusal x (sheet_of (floor_at text) (walls_at text))
    go passed e = sym (theorems.sheet_returns text e)
    go (refused k p) e = refl
