-- The text of stranded carriers in a memory of 1,416 bytes, which holds every such text.
use Prim.Native.Nat.{ℕ, zero, suc, ◌+◌, ◌*◌, ◌-◌, ◌≤◌, ◌<◌}
use native.Mathlib.Omega.{arith}
use native.Mathlib.Numerals.{add-one}
use mathlib.Core.Bool.{Bool, true, false, cond}
use mathlib.Core.List.{List, ◌++◌}
use mathlib.Core.Path.{◌≡◌, refl, sym, ◌∙◌, ap, ap₂}
use borrow.Author.Tests.{eqb-true, eqb-false}
use lib.Dec.{eqb}
use lib.ListN.{length, get_or, take, drop, set, length-append}
use Rattle.laws.specs.Memory.{put}
use Rattle.laws.specs.Verdict.{passed}
use Rattle.floor.specs.declared.Floor.{Floor}
use Rattle.floor.specs.Checks.{check_of, start_of}
use Rattle.floor.proofs.LimitsLaws.{check_tells}
use Rattle.sheet.specs.Text.{lines_of}
use Rattle.planner.specs.Plan.{plan_of}
use Rattle.planner.specs.Claims.{answer_at}
use Rattle.printing.specs.Put.{TextPut}
use Rattle.printing.proofs.LinesLaws.{lines_within}
use Rattle.reporting.specs.Put.{PutAt}
use Rattle.reporting.proofs.TextLaws.{both_put}
use Rattle.drawing.specs.Drawing.{drawn_floor}
use Rattle.drawing.proofs.DrawnLaws.{drawn_length, drawn_short}
use Rattle.reporting.proofs.PrintedLaws.{PrintsWithin}
use Rattle.blockers.specs.Blockers.{if_none}
use Rattle.blockers.specs.Inner.{PlanIn}
use Rattle.blockers.proofs.EntryLaws.{has_route, has_none}
use Rattle.stranded.specs.Text.{carrier_text, or_nobody, stranded_places, stranded_text}
use Rattle.stranded.specs.Inner.{stranded_cell, places_in}
use Rattle.stranded.proofs.LineLaws.{carrier_short, place_none, place_route, or_short}

-- A loop that fills the cells: before the first, one more, and after the last.
pub places_more : (f : Floor) (m places : List ℕ) (k c : ℕ) → places ≡ places_in f m k → c ≡ stranded_cell f m k →
    set places k c ≡ places_in f m (k + 1)
unfolding places_in
places_more f m places k c e g = rw (add-one, e, g)

pub places_end : (f : Floor) (m places : List ℕ) (k n : ℕ) → k ≤ n → n ≤ k → places ≡ places_in f m k → places ≡ places_in f m n
places_end f m places k n a b e =
    let same : k ≡ n = omega arith in
    rw same at e

module _ (f : Floor) (ws : List ℕ) (ok : check_of f ws ≡ passed) where
  few : f.carriers ≤ 8
  few = (check_tells f ws ok).bounds.carriers.1

  -- The cells by the tags are those by the answers.
  module _ (m : List ℕ) (own : PlanIn f ws m) where
    place_same : (k : ℕ) → k < f.carriers → stranded_cell f m k ≡ if_none (answer_at (plan_of f ws) k) (start_of f k) 65535
    unfolding stranded_cell
    place_same k l = go (eqb (get_or m (65 * k) 0) 2) refl
      where
        go : (x : Bool) → eqb (get_or m (65 * k) 0) 2 ≡ x → cond x 65535 (start_of f k) ≡ if_none (answer_at (plan_of f ws) k) (start_of f k) 65535
        go true e = place_route (answer_at (plan_of f ws) k) (start_of f k) (has_route f ws ok own l (eqb-true (get_or m (65 * k) 0) 2 e))
        go false e = place_none (answer_at (plan_of f ws) k) (start_of f k) (has_none f ws ok own l (eqb-false (get_or m (65 * k) 0) 2 e))

    pub places_same : (k : ℕ) → k ≤ f.carriers → places_in f m k ≡ stranded_places f ws k
    unfolding places_in stranded_places
    places_same zero l = refl
    places_same (suc k) l =
        ap₂ (λ (places : List ℕ) (c : ℕ). set places k c) (places_same k (omega arith)) (place_same k (omega arith))

  -- The lines have at most 360 bytes.
  abbrev lines : List ℕ
  lines = lines_of (carrier_text f ws) f.carriers

  lines_short : length (or_nobody lines) ≤ 360
  lines_short = or_short lines (omega (arith, lines_within (carrier_text f ws) 45 f.carriers (carrier_short f ws), few))

  pub lines_low : (old new : List ℕ) (n : ℕ) → PutAt (or_nobody lines) old 0 new n → n ≤ 360
  lines_low old new n p = omega (arith, p.behind, lines_short)

  -- The lines, and the drawing in the rest of the memory.
  pub stranded_put : (m old mid ys new places : List ℕ) (n k : ℕ) → PlanIn f ws m → PutAt (or_nobody lines) old 0 mid n →
      places ≡ places_in f m f.carriers → ys ≡ put (take (length mid - n) (drop n mid)) 0 (drawn_floor f ws places) →
      k ≡ (f.width + 1) * f.height → new ≡ take n mid ++ (ys ++ drop (length mid - n) (drop n mid)) → 1416 ≤ length old →
      TextPut (stranded_text f ws) old new (n + k)
  unfolding stranded_text
  stranded_put m old mid ys new places n k own p e g size h l =
      let cells : places ≡ stranded_places f ws f.carriers = e ∙ places_same m own f.carriers (omega arith) in
      let drawing = drawn_floor f ws (stranded_places f ws f.carriers) in
      let drawn : TextPut drawing (take (length mid - n) (drop n mid)) ys k =
      record {
        bytes = g ∙ ap (λ (xs : List ℕ). put (take (length mid - n) (drop n mid)) 0 (drawn_floor f ws xs)) cells;
        size = size ∙ sym (drawn_length f ws _);
      }
      in
      both_put (or_nobody lines) drawing old mid ys new n k p drawn h
      (omega (arith, lines_short, drawn_short f ws ok (stranded_places f ws f.carriers)))

  text_short : length (stranded_text f ws) ≤ 1416
  unfolding stranded_text
  text_short =
      let drawing = drawn_floor f ws (stranded_places f ws f.carriers) in
      omega (arith, length-append (or_nobody lines) drawing, lines_short, drawn_short f ws ok (stranded_places f ws f.carriers))

pub stranded_within : PrintsWithin stranded_text 1416
stranded_within = record { short = text_short }
