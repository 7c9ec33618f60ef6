-- Which lent memory is called too short: exactly what lies below its figure.
use Prim.Native.Nat.{ℕ, ◌*◌, ◌≤◌, ◌<◌}
use native.Mathlib.Omega.{arith}
use mathlib.Core.Path.{◌≡◌, sym, ◌∙◌}
use mathlib.Core.Logic.{◌↔◌, ⊎_elim}
use mathlib.Core.List.{List}
use lib.ListN.{length}
use borrow.Author.Tests.{le-leb}
use Rattle.laws.specs.Verdict.{Verdict, passed, refused, ◌then◌, refusal}
use Rattle.laws.proofs.VerdictLaws.{then_passed, answers_refused, demand_passes}
use Rattle.floor.specs.declared.Floor.{Floor}
use Rattle.floor.specs.Checks.{check_of, limits_of, long_enough}
use Rattle.sheet.specs.Values.{floor_at}
use Rattle.sheet.specs.Read.{sheet_verdict, read_verdict}
use Rattle.search.specs.Search.{search_of, request_of}
use Rattle.laws.proofs.Tests.{lt_or_le}
use Rattle.lengths.proofs.Theorems.{theorems as lengths-theorems, length_means}
use Rattle.abi.specs.Record.{record_lent}
use Rattle.kalomivund.specs.Entries.{read_lent, needed_verdict, search_lent}
use Rattle.kalomivund.proofs.SearchLaws.{search_long}
use Rattle.laws.proofs.VerdictLaws.{given_refusal}

-- Behind checks that find nothing, memory is too short exactly below its needed length.
behind_short : (x : Verdict) (needed lent : ℕ) → x ≡ passed → ((x then long_enough needed lent) ≡ refused 9 0) ↔ (lent < needed)
behind_short x needed lent ok = rw (then_passed {y = long_enough needed lent} ok) (length_means needed lent)

pub record_short : (xs : List ℕ) → (record_lent xs ≡ refused 9 0) ↔ (length xs < 54)
unfolding record_lent
record_short xs = length_means 54 (length xs)

pub read_record_short : (text : List ℕ) (lent walls : ℕ) → sheet_verdict text ≡ passed → (floor_at text).walls ≤ walls
    → (read_lent text lent walls ≡ refused 9 0) ↔ (lent < 54)
unfolding read_lent read_verdict long_enough
read_record_short text lent walls ok l =
    behind_short (read_verdict text walls) 54 lent (then_passed ok ∙ demand_passes 9 0 (le-leb _ _ l))

pub figures_short : (f : Floor) (lent : ℕ) → limits_of f ≡ passed → (needed_verdict f lent ≡ refused 9 0) ↔ (lent < 9)
unfolding needed_verdict
figures_short f lent ok = behind_short (limits_of f) 9 lent ok

-- Route memory of 64 numbers or more leaves a search to its own refusals, and 9 among those is for views.
pub route_short : (f : Floor) (ws : List ℕ) (i : ℕ) (m : List ℕ) (lent : ℕ) → check_of f ws ≡ passed → 65 * f.carriers ≤ length m
    → (search_lent f ws i m lent ≡ refusal 9 0) ↔ (lent < 64)
unfolding search_lent search_of
route_short f ws i m lent ok l = (
  λ h.
      ⊎_elim
      (λ (below : lent < 64). below)
      (λ (enough : 64 ≤ lent).
      let own = given_refusal (request_of f ws i m) _ 9 0 (sym (sym (search_long f ws i m enough) ∙ h)) in
      absurd (omega (arith, (lengths-theorems.views_too_short f ws i m ok).0 own)))
      (lt_or_le lent 64),
  λ b. answers_refused _ ((behind_short (check_of f ws) 64 lent ok).1 b),
)
