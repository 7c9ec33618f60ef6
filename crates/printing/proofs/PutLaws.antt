-- The lines of the carriers for the answers in a memory, put one behind the other.
use Prim.Native.Nat.{ℕ, ◌+◌, ◌*◌, ◌≤◌, min}
use native.Mathlib.Omega.{arith}
use native.Mathlib.Numerals.{add-one}
use mathlib.Core.Bool.{true, false}
use mathlib.Core.Logic.{⊎_elim}
use mathlib.Core.Path.{◌≡◌, refl, sym, ◌∙◌, ap}
use lib.Dec.{eqb}
use Rattle.laws.proofs.Tests.{true_or_false}
use Rattle.route.specs.Route.{none, route}
use mathlib.Core.List.{List, ◌∷◌, ◌++◌}
use borrow.Author.Rules.{rules}
use borrow.Author.Tests.{eq-eqb, ne_eqb}
use lib.ListN.{length, get_or, take, length-append}
use lib.Seq.{length-take-le}
use Rattle.laws.specs.Memory.{put, part}
use Rattle.laws.proofs.PutLaws.{put_none, put_length, put_next}
use Rattle.floor.specs.declared.Floor.{Floor}
use Rattle.route.specs.Arrival.{arrival_of}
use Rattle.fields.specs.Field.{field_of}
use Rattle.sheet.specs.Text.{line_of, lines_of}
use Rattle.printing.specs.Text.{none_word, none_line, answer_line, first_line}
use Rattle.printing.specs.Put.{line_in, lines_in, text_in, TextPut, LinePut, LinesPut}
use Rattle.records.specs.Records.{answer_in, view_at, record_at, view_of, shown}
use Rattle.sheet.proofs.LineText.{line_length}

pub none_length : (number : ℕ) → length (none_line number) ≡ 11
unfolding none_line none_word field_of
none_length number = refl

-- What a record with a tag shows: none where the tag is no route's.
tag_none : (tag : ℕ) (cells : List ℕ) → eqb tag 2 ≡ false → shown (view_of tag cells) ≡ none
unfolding view_of shown
tag_none tag cells e =
    ⊎_elim (λ (h : eqb tag 1 ≡ true). rw (e, view_of, h)) (λ (h : eqb tag 1 ≡ false). rw (e, view_of, h)) (true_or_false (eqb tag 1))

tag_route : (tag : ℕ) (cells : List ℕ) → eqb tag 2 ≡ true → shown (view_of tag cells) ≡ route cells
unfolding view_of shown
tag_route tag cells e = rw (e, view_of)

module _ (f : Floor) (i : ℕ) (m : List ℕ) where
  -- The line where the tag is no route's.
  line_none : (get_or m (65 * i) 0 ≡ 2 → ⊥) → line_in f m i ≡ none_line (i + 1)
  unfolding line_in answer_in view_at record_at answer_line
  line_none h = ap (answer_line f i) (tag_none _ _ (ne_eqb _ 2 h))

  -- The line where it is.
  line_route : (cells : List ℕ) → get_or m (65 * i) 0 ≡ 2 → cells ≡ part m (65 * i + 1) 64
      → line_in f m i ≡ line_of ((i + 1) ∷ arrival_of cells f.horizon ∷ take (f.horizon + 1) cells)
  unfolding line_in answer_in view_at record_at answer_line
  line_route cells h e = ap (answer_line f i) (tag_route _ _ (eq-eqb _ 2 h) ∙ ap route (sym e))

  pub none_put : (old new : List ℕ) (at : ℕ) → (get_or m (65 * i) 0 ≡ 2 → ⊥) → new ≡ put old at (none_line (i + 1))
      → LinePut f i m old at new (at + 11)
  none_put old new at h e =
      let line = line_none h in
      record { bytes = rw line e; behind = rw (line, none_length (i + 1)); short = omega arith }

  pub route_put : (cells old new : List ℕ) (at a : ℕ) → get_or m (65 * i) 0 ≡ 2 → cells ≡ part m (65 * i + 1) 64
      → length cells ≡ 64 → f.horizon ≤ 63 → a ≡ arrival_of cells (min f.horizon 63)
      → new ≡ put old at (line_of ((i + 1) ∷ a ∷ take (f.horizon + 1) cells))
      → LinePut f i m old at new (at + 11 + 5 * (f.horizon + 1))
  route_put cells old new at a h c s l b e =
      let low : min f.horizon 63 ≡ f.horizon = omega arith in
      let line = line_route cells h c in
      let arrival : a ≡ arrival_of cells f.horizon = b ∙ ap (arrival_of cells) low in
      let size = line_length ((i + 1) ∷ a ∷ take (f.horizon + 1) cells) in
      let taken = length-take-le (f.horizon + 1) cells (omega arith) in
      record {
        bytes = rw (line, ← arrival) e;
        behind = rw (line, ← arrival) (omega (arith, size, taken));
        short = omega arith;
      }

module _ (f : Floor) (m old : List ℕ) where
  pub lines_start : LinesPut f m old 0 old 11
  unfolding lines_in lines_of
  lines_start = record { bytes = put_none old 11; behind = refl; short = omega arith }

  -- One carrier's line more.
  pub lines_more : (k at next : ℕ) (new newer : List ℕ) → LinesPut f m old k new at → LinePut f k m new at newer next
      → 11 + 331 * (k + 1) ≤ length old → LinesPut f m old (k + 1) newer next
  unfolding lines_in lines_of
  lines_more k at next new newer a b l =
      let grown : length (lines_of (line_in f m) k ++ line_in f m k) ≡ length (lines_of (line_in f m) k) + length (line_in f m k) =
      length-append (lines_of (line_in f m) k) (line_in f m k)
      in
      rw add-one
      (record {
        bytes = put_next old new newer (lines_of (line_in f m) k) (line_in f m k) 11 at a.bytes b.bytes (sym a.behind)
            (omega (arith, a.short, b.behind, b.short));
        behind = omega (arith, a.behind, b.behind, grown);
        short = omega (arith, a.short, b.short);
      })

  pub lines_keep : (k at : ℕ) (new : List ℕ) → LinesPut f m old k new at → 11 + 331 * k ≤ length old → length new ≡ length old
  lines_keep k at new a l =
      ap length a.bytes ∙ put_length old (lines_in f m k) 11 (omega (arith, a.behind, a.short))

  pub lines_end : (k n at : ℕ) (new : List ℕ) → k ≤ n → n ≤ k → LinesPut f m old k new at → LinesPut f m old n new at
  lines_end k n at new a b h =
      let e : k ≡ n = omega arith in
      rw e at h

-- What the first and the last answer of such a loop take.
pub ruleset lines = (rules, lines_start, lines_end)

-- Line 1 and the carriers' lines behind it.
pub text_put : (f : Floor) (m old mid new : List ℕ) (failing n : ℕ) → mid ≡ put old 0 (first_line f failing)
    → LinesPut f m mid f.carriers new n → length (first_line f failing) ≡ 11 → 11 + 331 * f.carriers ≤ length old
    → TextPut (text_in f failing m) old new n
unfolding text_in
text_put f m old mid new failing n e a s l =
    record {
      bytes = put_next old mid new (first_line f failing) (lines_in f m f.carriers) 0 11 e a.bytes (rw s)
          (omega (arith, a.behind, a.short));
      size = a.behind ∙ sym (length-append (first_line f failing) (lines_in f m f.carriers) ∙ rw s);
    }

pub first_length : (f : Floor) (failing : ℕ) → length (first_line f failing) ≡ 11
unfolding first_line line_of field_of
first_length f failing = refl
