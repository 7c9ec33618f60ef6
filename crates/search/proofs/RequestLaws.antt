-- What it says that a request passes, and that a checked floor can be searched.
use Prim.Native.Nat.{ℕ, ◌*◌, ◌-◌, ◌≤◌}
use native.Mathlib.Omega.{arith}
use mathlib.Core.Bool.{true}
use mathlib.Core.List.{List}
use mathlib.Core.Path.{◌≡◌, ◌∙◌}
use borrow.Author.Tests.{leb-true, le-leb}
use lib.Dec.{leb}
use lib.ListN.{length}
use Rattle.floor.specs.declared.Floor.{Floor}
use Rattle.laws.specs.Verdict.{passed, demand, ◌then◌}
use Rattle.floor.specs.Checks.{check_of, long_enough, within}
use Rattle.floor.specs.Accepted.{Accepted, Within}
use Rattle.laws.proofs.VerdictLaws.{then_both, then_passed, demand_holds, demand_passes}
use Rattle.floor.proofs.LimitsLaws.{Bounds, limited_bounds, length_passed}
use Rattle.floor.proofs.Theorems.{theorems}
use Rattle.laws.proofs.Tests.{and_both, and_fst, and_snd}
use Rattle.search.specs.Rows.{FreeRows, Searchable}
use Rattle.search.specs.Search.{request_of}
use Rattle.search.specs.Refused.{Granted}

module _ (f : Floor) (ws : List ℕ) (i : ℕ) (m : List ℕ) where
  pub request_granted : request_of f ws i m ≡ passed → Granted f ws i m
  unfolding request_of within
  request_granted e =
      record {
        accepted = (theorems.passes_exactly f ws).0 one.0;
        lent = length_passed (65 * f.carriers) (length m) two.0;
        listed = (
          leb-true 1 i (and_fst (leb 1 i) (leb i f.carriers) three),
          leb-true i f.carriers
              (and_snd (leb 1 i) (leb i f.carriers) three),
        );
      }
    where
      one : (check_of f ws ≡ passed) × ((long_enough (65 * f.carriers) (length m) then demand (within 1 f.carriers i) 7 0) ≡ passed)
      one = then_both (check_of f ws) (long_enough (65 * f.carriers) (length m) then demand (within 1 f.carriers i) 7 0) e

      two : (long_enough (65 * f.carriers) (length m) ≡ passed) × (demand (within 1 f.carriers i) 7 0 ≡ passed)
      two = then_both (long_enough (65 * f.carriers) (length m)) (demand (within 1 f.carriers i) 7 0) one.1

      three : within 1 f.carriers i ≡ true
      three = demand_holds (within 1 f.carriers i) 7 0 two.1

  pub granted_request : Granted f ws i m → request_of f ws i m ≡ passed
  unfolding request_of long_enough within
  granted_request g =
      then_passed ((theorems.passes_exactly f ws).1 g.accepted)
      ∙ then_passed (demand_passes 9 0 (le-leb (65 * f.carriers) (length m) g.lent))
      ∙ demand_passes 7 0 (and_both (le-leb 1 i g.listed.0) (le-leb i f.carriers g.listed.1))

  -- A carrier of an accepted floor can be searched for with the floor's free rows and the views above it.
  pub accepted_searchable : (rows : List ℕ) → Accepted f ws → Within 1 f.carriers i → 65 * (i - 1) ≤ length m → FreeRows f ws rows →
      Searchable f rows i m
  accepted_searchable rows a w l r =
      record {
        width = (b.width.0, b.width.1);
        height = b.height.1;
        horizon = b.horizon.1;
        listed = (w.0, omega (arith, w, b.carriers));
        start = (a.carriers_in_grid (i - 1) (omega (arith, w))).1.0;
        few = (a.carriers_in_grid (i - 1) (omega (arith, w))).0.1;
        docks = (a.carriers_in_grid (i - 1) (omega (arith, w))).1.1;
        lent = l;
        long = r.long;
        clean = r.clean;
      }
    where
      b : Bounds f
      b = limited_bounds f a.limited

  pub granted_searchable : (rows : List ℕ) → Granted f ws i m → FreeRows f ws rows → Searchable f rows i m
  granted_searchable rows g r = accepted_searchable rows g.accepted g.listed (omega (arith, g.lent, g.listed)) r

  pub granted_bounds : Granted f ws i m → Bounds f
  granted_bounds g = limited_bounds f g.accepted.limited
