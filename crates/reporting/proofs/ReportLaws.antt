-- Texts put one behind the other, and the lengths of a report's lines.
use Prim.Native.Nat.{ℕ, ◌+◌, ◌-◌, ◌*◌, ◌≤◌}
use native.Mathlib.Omega.{arith}
use native.Mathlib.Numerals.{add-one}
use mathlib.Core.Bool.{Bool, true, false, cond}
use mathlib.Core.Path.{◌≡◌, refl, sym, ◌∙◌, ap}
use mathlib.Core.List.{List, [], ◌∷◌, ◌++◌}
use borrow.Author.Tests.{ne_eqb}
use lib.Dec.{eqb}
use lib.ListN.{length, get_or, set, length-append}
use borrow.Rule.Slice.PartMut.{put_mid}
use Rattle.laws.specs.Memory.{put}
use Rattle.laws.proofs.PutLaws.{put_none, put_length, put_next}
use Rattle.fields.specs.Field.{field_of}
use Rattle.fields.proofs.StoreLaws.{put_copied}
use Rattle.sheet.specs.Text.{line_of, lines_of}
use Rattle.sheet.proofs.LineText.{line_length}
use Rattle.sheet.proofs.LineLaws.{field_length, field_next, byte_next, newline_next}
use Rattle.printing.proofs.LinesLaws.{lines_within}
use Rattle.reporting.specs.Text.{kept_word, sent_word, delivered_word, answer_word, step_line}
use Rattle.reporting.specs.Text.{entry_line, entry_count, report_text, report_length}
use Rattle.reporting.specs.Put.{PutAt}

-- Bytes copied to a part of their length stand at its column.
pub part_put : (old bytes moved : List ℕ) (at n : ℕ) → moved ≡ bytes → n ≡ length bytes
    → PutAt bytes old at (put_mid at (at + n - at) old moved) (at + n)
part_put old bytes moved at n e s = record { bytes = put_copied old bytes moved at n e (sym s); behind = rw s refl }

-- A text behind a text.
pub put_behind : {xs ys old mid new : List ℕ} {at n next : ℕ} → PutAt xs old at mid n → PutAt ys mid n new next → next ≤ length old
    → PutAt (xs ++ ys) old at new next
put_behind {xs} {ys} {old} {mid} {new} {at} {n} {next} x y l =
    record {
      bytes = put_next old mid new xs ys at n x.bytes y.bytes (sym x.behind) (omega (arith, y.behind));
      behind = omega (arith, x.behind, y.behind, length-append xs ys);
    }

-- The third word.
pub word_delivered : (a : ℕ) → 2 ≤ a → answer_word a ≡ delivered_word
unfolding answer_word
word_delivered a l = rw (ne_eqb a 0 (λ (e : a ≡ 0). omega arith), ne_eqb a 1 (λ (e : a ≡ 1). omega arith))

-- A word has at most 9 letters, an entry's line at most 21 bytes.
pub word_within : (a : ℕ) → length (answer_word a) ≤ 9
unfolding answer_word kept_word sent_word delivered_word
word_within a = either (eqb a 0) (eqb a 1)
  where
    either : (x y : Bool) → length (cond x kept_word (cond y sent_word delivered_word)) ≤ 9
    either true y = omega arith
    either false true = omega arith
    either false false = omega arith

-- The line of a step, put piece by piece.
pub step_put : (m m₁ m₂ m₃ : List ℕ) (at p number a next : ℕ) → m₁ ≡ put m at (field_of p) → m₂ ≡ put m₁ (at + 5) (field_of number)
    → PutAt (answer_word a) (set m₂ (at + 10) 32) (at + 11) m₃ next → next ≤ at + 20 → at + 21 ≤ length m
    → PutAt (step_line p number a) m at (set m₃ next 10) (next + 1)
unfolding step_line
step_put m m₁ m₂ m₃ at p number a next e₁ e₂ w short l =
    let two = field_next m m₁ m₂ (field_of p) at (at + 5) number e₁ e₂ (rw field_length) (omega arith) in
    let both : length (field_of p ++ field_of number) ≡ 10 = rw (length-append, field_length, field_length) in
    let space = byte_next 32 m m₂ (field_of p ++ field_of number) at (at + 10) two (omega arith) (omega arith) in
    let eleven : length ((field_of p ++ field_of number) ++ (32 ∷ [])) ≡ 11 = rw (length-append, both) in
    let front : PutAt ((field_of p ++ field_of number) ++ (32 ∷ [])) m at (set m₂ (at + 10) 32) (at + 11) =
    record { bytes = space; behind = omega arith }
    in
    let word = put_behind front w (omega arith) in
    let last = newline_next m m₃ (((field_of p ++ field_of number) ++ (32 ∷ [])) ++ answer_word a) at next word.bytes (sym word.behind)
    (omega arith) in
    let line = ((field_of p ++ field_of number) ++ (32 ∷ [])) ++ answer_word a in
    let size : length (line ++ (10 ∷ [])) ≡ length line + 1 = rw length-append in
    record { bytes = last; behind = omega (arith, word.behind) }

-- A line of an entry has at most 21 bytes, a report's text at most 16 and 21 a step.
entry_within : (xs : List ℕ) (k : ℕ) → length (entry_line xs k) ≤ 21
unfolding entry_line step_line
entry_within xs k =
    rw (length-append, length-append, length-append, length-append, field_length, field_length)
    (omega (arith, word_within (get_or xs (2 * k + 1) 0)))

pub entries_within : (xs : List ℕ) (k : ℕ) → length (lines_of (entry_line xs) k) ≤ k * 21
entries_within xs k = lines_within (entry_line xs) 21 k (entry_within xs)

pub report_within : (carriers order : ℕ) (xs : List ℕ) → length (report_text carriers order xs) ≤ report_length (entry_count xs)
unfolding report_text report_length
report_within carriers order xs =
    let first = line_of (carriers ∷ order ∷ entry_count xs ∷ []) in
    omega (
      arith,
      line_length (carriers ∷ order ∷ entry_count xs ∷ []),
      entries_within xs (entry_count xs),
      length-append first (lines_of (entry_line xs) (entry_count xs)),
    )

-- A loop that puts the lines of a report's entries from a column on: before the first, one more, its length, and after the last.
abbrev pub EntriesPut : (xs old : List ℕ) (at k : ℕ) (new : List ℕ) (next : ℕ) → Type 0
EntriesPut xs old at k new next = PutAt (lines_of (entry_line xs) k) old at new next

module _ (xs old : List ℕ) (at : ℕ) where
  pub entries_start : EntriesPut xs old at 0 old at
  unfolding lines_of
  entries_start = record { bytes = put_none old at; behind = omega arith }

  pub entries_short : (k n : ℕ) (mid : List ℕ) → EntriesPut xs old at k mid n → n ≤ at + 21 * k
  entries_short k n mid e = omega (arith, e.behind, entries_within xs k)

  pub entries_more : (k n next : ℕ) (mid new : List ℕ) → EntriesPut xs old at k mid n
      → PutAt (step_line (k + 1) (get_or xs (2 * k) 0) (get_or xs (2 * k + 1) 0)) mid n new next → next ≤ n + 21
      → at + 21 * (k + 1) ≤ length old → EntriesPut xs old at (k + 1) new next
  unfolding lines_of entry_line
  entries_more k n next mid new e p short l = rw add-one (put_behind e p (omega (arith, entries_short k n mid e)))

  pub entries_keep : (k n : ℕ) (mid : List ℕ) → EntriesPut xs old at k mid n → at + 21 * k ≤ length old → length mid ≡ length old
  entries_keep k n mid e l =
      ap length e.bytes ∙ put_length old _ at (omega (arith, entries_within xs k))

  pub entries_end : (k n steps : ℕ) (mid : List ℕ) → EntriesPut xs old at k mid n → k ≤ steps → steps ≤ k
      → EntriesPut xs old at steps mid n
  entries_end k n steps mid e a b =
      let same : k ≡ steps = omega arith in
      rw same at e

-- Line 1 and the entries' lines behind it.
pub report_put : (carriers order : ℕ) (xs old mid new : List ℕ) (k n : ℕ)
    → PutAt (line_of (carriers ∷ order ∷ entry_count xs ∷ [])) old 0 mid k → EntriesPut xs mid 16 (entry_count xs) new n
    → report_length (entry_count xs) ≤ length old → PutAt (report_text carriers order xs) old 0 new n
unfolding report_text report_length
report_put carriers order xs old mid new k n e p l =
    let sixteen : k ≡ 16 = omega (arith, e.behind, line_length (carriers ∷ order ∷ entry_count xs ∷ [])) in
    put_behind e (rw sixteen p) (omega (arith, entries_short xs mid 16 _ _ _ p))
