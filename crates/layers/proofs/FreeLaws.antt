-- The table of the free cells at each beat: rows laid beat by beat.
use Prim.Native.Nat.{ℕ, ◌+◌, ◌*◌, ◌-◌, ◌/◌, ◌%◌, ◌≤◌, ◌<◌}
use native.Mathlib.Omega.{arith}
use native.Mathlib.Nat.{eq-or-lt_of_le}
use mathlib.Core.Bool.{true}
use mathlib.Core.List.{List}
use mathlib.Core.Logic.{inl, inr, ⊎_elim}
use mathlib.Core.Path.{◌≡◌, refl, ap, ◌∙◌}
use lib.ListN.{length, get_or, replicate, length-replicate}
use Rattle.laws.proofs.Lists.{zeros_at}
use Rattle.laws.proofs.Tests.{lt_or_le, true_false_absurd}
use Rattle.bitrows.specs.Words.{digit}
use Rattle.bitrows.specs.Rows.{has, filled, written, Clean}
use Rattle.bitrows.proofs.DigitLaws.{digit_zero}
use Rattle.layers.specs.declared.SearchGrid.{SearchGrid}
use Rattle.layers.specs.Table.{Tidy, Rewritten, slot_of, word_of, row_of}
use Rattle.layers.specs.FreeTable.{FreeBeats}
use Rattle.layers.proofs.RewriteLaws.{rewritten_rows}
use Rattle.layers.proofs.WordLaws.{slot_low, row_of_slot}

-- An empty table has the free rows at no beat.
free_none : (free table : List ℕ) → table ≡ replicate 2049 0 → FreeBeats free 0 table
free_none free table e =
    rw e
    (record {
      long = length-replicate {A = ℕ} 2049 0;
      shown = λ t j h l. absurd (omega arith);
      hidden = λ i l. zeros_at 2049 i;
    })

-- The free rows at one more beat.
free_next : (free table after : List ℕ) (value : ℕ → ℕ) (n : ℕ) → FreeBeats free n table →
    ((j : ℕ) → j < 32 → value j ≡ get_or free (row_of j) 0) →
    Rewritten table value (n * 32) 32 after → FreeBeats free (n + 1) after
free_next free table after value n old same new =
    record {
      long = new.long ∙ old.long;
      shown = λ t j h l. ⊎_elim (λ (e : t ≡ n). rw e (new.inside j l ∙ same j l))
          (λ (e : t < n). new.outside (t * 32 + j) (inl (omega arith)) ∙ old.shown t j e l) (eq-or-lt_of_le (omega arith));
      hidden = λ i l. new.outside i (inr (omega arith)) ∙ old.hidden i (omega arith);
    }

-- At the first beat; copied from the beat before.
pub free_first : (free words table after : List ℕ) → words ≡ filled (replicate 32 0) (λ j. get_or free (row_of j) 0) 32 →
    table ≡ replicate 2049 0 → after ≡ written table 0 words 32 → FreeBeats free 1 after
free_first free words table after made e h =
    free_next free table after (λ j. get_or free (row_of j) 0) 0 (free_none free table e) (λ j l. refl)
    (rewritten_rows table words after (λ j. get_or free (row_of j) 0) 0 32 (omega arith)
    (omega (arith, ap length e, length-replicate {A = ℕ} 2049 0)) made h)

pub free_more : (free table after : List ℕ) (n : ℕ) → 1 ≤ n → FreeBeats free n table →
    Rewritten table (λ j. get_or table ((n - 1) * 32 + j) 0) (n * 32) 32 after → FreeBeats free (n + 1) after
free_more free table after n some old new = free_next free table after _ n old (λ j l. old.shown (n - 1) j (omega arith) l) new

module _ (free table : List ℕ) (n : ℕ) where
  -- A row of a beat is the free row.
  pub free_shown : (t row : ℕ) → FreeBeats free n table → t < n → row < 32 → get_or table (word_of t row) 0 ≡ get_or free row 0
  unfolding word_of
  free_shown t row beats h l = beats.shown t (slot_of row) h (slot_low row l) ∙ ap (λ (i : ℕ). get_or free i 0) (row_of_slot row l)

  module _ (g : SearchGrid) (beats : FreeBeats free n table) where
    -- A digit of the table is one of the free rows.
    word_row : (i column : ℕ) → has table i column ≡ true → has free (row_of (i % 32)) column ≡ true
    unfolding has
    word_row i column e = ⊎_elim early late (lt_or_le i (n * 32))
      where
        early : i < n * 32 → digit (get_or free (row_of (i % 32)) 0) column ≡ true
        early l =
            let p : i ≡ i / 32 * 32 + i % 32 = omega arith in
            rw (beats.shown (i / 32) (i % 32) (omega arith) (omega arith)) at (rw p at e)

        late : n * 32 ≤ i → digit (get_or free (row_of (i % 32)) 0) column ≡ true
        late l = true_false_absurd e (rw (beats.hidden i l) (digit_zero column))

    -- A table of free rows is tidy if they are clean.
    pub free_tidy : n ≤ 64 → Clean g.width g.cells free → Tidy g table
    unfolding word_of
    free_tidy few clean = record {
      long = beats.long;
      thin = λ i column e. clean.thin (row_of (i % 32)) column (word_row i column e);
      rows = λ t row column h e.
          let p : (t * 32 + slot_of row) % 32 ≡ slot_of row = omega (arith, slot_low row h) in
          clean.inside row column (rw (p, row_of_slot row h) at (word_row (t * 32 + slot_of row) column e));
      empty = beats.hidden 2048 (omega arith);
    }
