-- What carriers' lines in good form have lent for, column by column.
use Prim.Native.Nat.{ℕ, ◌+◌, ◌-◌, ◌*◌, ◌/◌, ◌%◌, ◌≤◌, ◌<◌}
use native.Mathlib.Omega.{arith}
use native.Mathlib.Decide.{dec_lt}
use native.Mathlib.Numerals.{add-one}
use mathlib.Core.Path.{◌≡◌, refl, sym, ◌∙◌}
use mathlib.Core.List.{List}
use borrow.Rule.Slice.PartMut.{put_mid}
use lib.ListN.{length}
use Rattle.floor.specs.declared.Floor.{Floor}
use Rattle.laws.specs.Verdict.{passed}
use Rattle.fields.specs.Form.{counted_form, counted_length, past_counted, column_past, lines_form}
use Rattle.sheet.specs.Form.{carrier_column}
use Rattle.sheet.specs.Values.{value_at, cell_at_column, up_to, listed, count_in, dock_in, place_in, starts_at, counts_at, docks_at, head_at}
use Rattle.sheet.specs.Values.{floor_at}
use Rattle.sheet.proofs.FormLaws.{Lined, lined}
use Rattle.sheet.proofs.ListedLaws.{listed_same, up_to_block, up_to_below, up_to_past}

pub first_line_lem : (text : List ℕ) → 31 ≡ carrier_column text 0
unfolding carrier_column column_past
first_line_lem text = refl

module _ (text : List ℕ) (n : ℕ) (few : n ≤ 8) (good : lines_form (counted_form text) (past_counted text) 31 n ≡ passed) where
  module _ (i : ℕ) (l : i < n) where
    line : Lined text n i
    line = lined text n good i l

    -- The start, the dock count and the docks lie within the text.
    pub start_there : carrier_column text i + 10 ≤ length text
    unfolding counted_length
    start_there = omega (arith, line.end, line.reach)

    pub count_there : carrier_column text i + 10 + 5 ≤ length text
    unfolding counted_length
    count_there = omega (arith, line.end, line.reach)

    pub docks_there : (at x : ℕ) → at ≡ carrier_column text i → x ≡ count_in text i → at + 15 + 10 * x ≤ length text
    unfolding counted_length count_in
    docks_there at x e h = omega (arith, line.end, line.reach, e, h)

    pub column_low : carrier_column text i ≤ 479
    column_low = omega (arith, line.column_low, few, l)

    -- The dock count that was read, and the next line's column from it.
    pub next_column : (at x : ℕ) → at ≡ carrier_column text i → x ≡ value_at text (at + 10)
        → (x ≡ count_in text i) × ((x ≤ 4) × ((at ≤ 479) × (at + (16 + 10 * x) ≡ carrier_column text (i + 1))))
    unfolding counted_length count_in
    next_column at x e h =
        let number : x ≡ count_in text i = rw e at h in
        let end = rw (← number, ← e) at line.end in
        (number, (omega (arith, number, line.most), (omega (arith, column_low, e), rw add-one (sym end))))

-- Place p of the docks of n carriers in a grid.
abbrev pub place_with : List ℕ → (n width height p : ℕ) → ℕ
place_with text n width height p =
    up_to n (λ (i : ℕ). up_to (count_in text i) (λ (k : ℕ). cell_at_column text width height (carrier_column text i + 15 + 10 * k)) (p % 4))
    (p / 4)

-- The docks of a carrier stored in their places, behind those of the carriers before it.
pub docks_step : (text : List ℕ) (n width height : ℕ) → n ≤ 8 → (i at count : ℕ) (xs ys : List ℕ) → i < n → at ≡ carrier_column text i
    → count ≡ count_in text i → xs ≡ listed (up_to (4 * i) (place_with text n width height)) 32
    → ys ≡ listed (up_to count (λ (k : ℕ). cell_at_column text width height (at + 15 + 10 * k))) 4
    → put_mid (4 * i) (4 * i + 4 - 4 * i) xs ys ≡ listed (up_to (4 * (i + 1)) (place_with text n width height)) 32
docks_step text n width height few i at count xs ys l e c a b =
    let q : 4 * (i + 1) ≡ 4 * i + 4 = omega arith in
    rw q (up_to_block place (4 * i) 4 32 xs ys (omega arith) a (b ∙ listed_same _ (λ (j : ℕ). place (4 * i + j)) 4 same))
  where
    place : ℕ → ℕ
    place = place_with text n width height

    same : (j : ℕ) → j < 4 → up_to count (λ (k : ℕ). cell_at_column text width height (at + 15 + 10 * k)) j ≡ place (4 * i + j)
    same j h =
        let here : (4 * i + j) / 4 ≡ i = omega arith in
        let within : (4 * i + j) % 4 ≡ j = omega arith in
        rw (here, within, up_to_below _ n i l, e, c)

-- After the docks of the last carrier: the places behind them are 0.
pub places_all : (text : List ℕ) (f : Floor) (p : ℕ) (xs : List ℕ) → p ≤ 4 * f.carriers → 4 * f.carriers ≤ p →
    xs ≡ listed (up_to p (place_with text f.carriers f.width f.height)) 32 → xs ≡ docks_at text f
unfolding docks_at place_in dock_in
places_all text f p xs a b e = e ∙ listed_same (up_to p place) place 32 (λ k l. same k (dec_lt k p))
  where
    place : ℕ → ℕ
    place = place_with text f.carriers f.width f.height

    same : (k : ℕ) → Dec (k < p) → up_to p place k ≡ place k
    same k (yes l) = up_to_below place p k l
    same k (no l) = up_to_past place p k (omega arith) ∙ sym (up_to_past _ f.carriers (k / 4) (omega arith))

-- The floor that is made of line 1.
pub floor_made : (text : List ℕ) (f : Floor) (starts counts docks : List ℕ) → f ≡ head_at text → starts ≡ starts_at text f
    → counts ≡ counts_at text f → docks ≡ docks_at text f
    → ◌≡◌ {A = Floor}
    (record {
      width = f.width;
      height = f.height;
      horizon = f.horizon;
      depth = f.depth;
      carriers = f.carriers;
      walls = f.walls;
      starts = starts;
      counts = counts;
      docks = docks;
    }) (floor_at text)
unfolding floor_at head_at
floor_made text f starts counts docks e a b c = rw (a, b, c, e)
