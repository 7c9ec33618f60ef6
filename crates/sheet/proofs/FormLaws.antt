-- What a text in good form tells: its values are within their limits, and it is as long as its counts say.
use Prim.Native.Nat.{ℕ, zero, suc, ◌+◌, ◌*◌, ◌≤◌, ◌<◌}
use native.Mathlib.Omega.{arith}
use mathlib.Core.Path.{◌≡◌, refl, ◌∙◌}
use mathlib.Core.List.{List, ◌++◌}
use borrow.Author.Tests.{leb-true, ltb-true, le-leb}
use lib.ListN.{length, drop, length-append, get_or-append}
use Rattle.floor.specs.declared.Floor.{Floor}
use Rattle.laws.specs.Verdict.{Verdict, passed, ◌then◌, in_turn}
use Rattle.floor.specs.Checks.{limits_of, lent_of, long_enough, places_of, check_of}
use Rattle.laws.proofs.VerdictLaws.{then_both, demand_holds, demand_passes, turn_passed, turn_passes}
use Rattle.floor.proofs.LimitsLaws.{Bounds, limits_passed}
use Rattle.floor.proofs.SameLaws.{places_same, walls_agree}
use Rattle.fields.specs.Field.{number_at}
use Rattle.fields.specs.Form.{newline_form, line_form, counted_form, counted_length, past_counted, past_pair, column_past, lines_form, end_form}
use Rattle.fields.proofs.ColumnLaws.{counted_tells, counted_columns, pair_columns}
use Rattle.sheet.specs.Form.{carrier_column, wall_column, rest_form}
use Rattle.sheet.specs.Values.{value_at, count_in, head_at, floor_at, walls_from, walls_at}
use Rattle.sheet.specs.Read.{form_of}
use Rattle.sheet.proofs.CellLaws.{number_value}
use Rattle.sheet.proofs.ListedLaws.{listed_length}

-- Checks that all pass, up to fewer of them.
turns_before : (check : ℕ → Verdict) (i n : ℕ) → i ≤ n → in_turn check n ≡ passed → in_turn check i ≡ passed
turns_before check i n l h = turn_passes check i (λ k b. turn_passed check n h k (omega arith))

module _ (text : List ℕ) where
  -- A line in good form lies within the text.
  pub line_reach : (at k : ℕ) → line_form text at k ≡ passed → at + 5 * k < length text
  unfolding line_form newline_form
  line_reach at k h =
      let a = then_both _ _ h in
      ltb-true _ _ (demand_holds _ 1 _ (then_both _ _ a.1).0)

  -- A counted line in good form lies within the text, and so do lines one behind the other.
  pub counted_reach : (at : ℕ) → counted_form text at ≡ passed → past_counted text at ≤ length text
  unfolding counted_form past_counted counted_length
  counted_reach at h =
      let a = then_both _ _ h in
      let b = then_both _ _ a.1 in
      let c = then_both _ _ b.1 in
      omega (arith, line_reach (at + 15) (2 * number_at text (at + 10)) c.1)

  lines_reach : (form : ℕ → Verdict) (past : ℕ → ℕ) (at k : ℕ) → ((column : ℕ) → form column ≡ passed → past column ≤ length text)
      → at ≤ length text → lines_form form past at k ≡ passed → column_past past at k ≤ length text
  unfolding lines_form column_past in_turn
  lines_reach form past at zero step l h = l
  lines_reach form past at (suc k) step l h = step (column_past past at k) (then_both _ _ h).1

  pair_reach : (column : ℕ) → line_form text column 2 ≡ passed → past_pair column ≤ length text
  unfolding past_pair
  pair_reach column h = omega (arith, line_reach column 2 h)

  -- What carriers' lines in good form tell of each: its form, that it lies within the text, and its dock count.
  pub record Lined (n i : ℕ) : Type 0 where
    pub form : counted_form text (carrier_column text i) ≡ passed
    pub end : carrier_column text (suc i) ≡ carrier_column text i + counted_length (count_in text i)
    pub reach : carrier_column text (suc i) ≤ length text
    pub least : 1 ≤ count_in text i
    pub most : count_in text i ≤ 4
    pub column_low : carrier_column text i ≤ 31 + 56 * i
    pub count_number : count_in text i ≡ number_at text (carrier_column text i + 10)

  pub lined : (n : ℕ) → lines_form (counted_form text) (past_counted text) 31 n ≡ passed → (i : ℕ) → i < n → Lined n i
  unfolding lines_form carrier_column count_in column_past past_counted
  lined n h i l =
      let good = turn_passed _ n h i l in
      let c = counted_tells text (column_past (past_counted text) 31 i) good in
      let v : value_at text (column_past (past_counted text) 31 i + 10) ≡ number_at text (column_past (past_counted text) 31 i + 10) =
      number_value text _ _ (omega (arith, c.1)) refl
      in
      record {
        form = good;
        end = rw v;
        reach = counted_reach _ good;
        least = omega (arith, v, c.0);
        most = omega (arith, v, c.1);
        column_low = counted_columns text 31 i
            (turns_before (λ (k : ℕ). counted_form text (column_past (past_counted text) 31 k)) i n (omega arith) h);
        count_number = v;
      }

  -- What good form tells.
  pub record Formed : Type 0 where
    pub limited : limits_of (head_at text) ≡ passed
    pub bounds : Bounds (head_at text)
    pub head : 31 ≤ length text
    pub carriers_form : lines_form (counted_form text) (past_counted text) 31 (head_at text).carriers ≡ passed
    pub walls_form : lines_form (λ (column : ℕ). line_form text column 2) past_pair (carrier_column text (head_at text).carriers)
        (head_at text).walls
        ≡ passed
    pub size : length text ≡ carrier_column text (head_at text).carriers + 11 * (head_at text).walls

  pub form_tells : form_of text ≡ passed → Formed
  unfolding form_of rest_form end_form wall_column carrier_column
  form_tells h =
      let a = then_both _ _ h in
      let b = then_both _ _ a.1 in
      let c = then_both _ _ b.1 in
      let d = then_both _ _ c.1 in
      let n = (head_at text).carriers in
      let k = (head_at text).walls in
      let first : 31 ≤ length text = omega (arith, line_reach 0 6 a.0) in
      let carriers : column_past (past_counted text) 31 n ≤ length text =
      lines_reach (counted_form text) (past_counted text) 31 n counted_reach first c.0
      in
      let walls : column_past past_pair (column_past (past_counted text) 31 n) k ≤ length text =
      lines_reach (λ (p : ℕ). line_form text p 2) past_pair (column_past (past_counted text) 31 n) k pair_reach carriers d.0
      in
      let last = column_past past_pair (column_past (past_counted text) 31 n) k in
      let tail : length text ≤ last = leb-true _ _ (demand_holds _ 1 last d.1) in
      record {
        limited = b.0;
        bounds = limits_passed (head_at text) b.0;
        head = first;
        carriers_form = c.0;
        walls_form = d.0;
        size = omega (arith, walls, tail, pair_columns (column_past (past_counted text) 31 n) k);
      }

  -- The walls that were read into a memory.
  pub walls_read : {f : Floor} {m : List ℕ} (old : List ℕ) → f ≡ floor_at text → m ≡ walls_from text f ++ drop f.walls old
      → m ≡ walls_at text ++ drop (floor_at text).walls old
  unfolding walls_at
  walls_read old e h = rw e at h

-- The limits look at line 1 alone.
pub limits_of_head : (text : List ℕ) → limits_of (floor_at text) ≡ limits_of (head_at text)
unfolding limits_of floor_at head_at
limits_of_head text = refl

-- As many walls are read as line 1 counts.
pub walls_length : (text : List ℕ) → length (walls_at text) ≡ (floor_at text).walls
unfolding walls_at walls_from
walls_length text = listed_length _ (floor_at text).walls

-- The floor check over the walls that were read, with unused places behind them, is checks 3 to 17 on the floor that the text says.
pub checked_places : (text rest : List ℕ) → form_of text ≡ passed
    → check_of (floor_at text) (walls_at text ++ rest) ≡ places_of (floor_at text) (walls_at text)
unfolding check_of lent_of long_enough ◌then◌
checked_places text rest h =
    let limits : limits_of (floor_at text) ≡ passed = limits_of_head text ∙ (form_tells text h).limited in
    let lent : (floor_at text).walls ≤ length (walls_at text ++ rest) =
    rw (length-append, walls_length text) (omega arith)
    in
    rw (limits, demand_passes 9 0 (le-leb _ _ lent))
    (places_same (floor_at text) (walls_at text ++ rest) (floor_at text) (walls_at text)
    (walls_agree (floor_at text) (walls_at text ++ rest) (walls_at text)
    (λ j l. get_or-append (walls_at text) rest 0 j (rw (walls_length text) l))))
