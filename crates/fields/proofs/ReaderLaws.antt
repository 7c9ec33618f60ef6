-- The loop over lines one behind the other: how far the reader has come, and what is known there.
use Prim.Native.Nat.{ℕ, ◌+◌, ◌*◌, ◌≤◌, ◌<◌}
use native.Mathlib.Nat.{mul-add, mul-le-mul_left}
use native.Mathlib.Omega.{arith}
use native.Mathlib.Numerals.{add-one}
use mathlib.Core.Path.{◌≡◌, refl, sym}
use Rattle.floor.specs.declared.Refusal.{Refusal}
use Rattle.laws.specs.Verdict.{Verdict, passed, ◌gives◌}
use Rattle.laws.proofs.VerdictLaws.{turn_none, turn_more, turn_stop}
use Rattle.std.specs.Prelude.{Result, Ok, Err}
use Rattle.std.specs.Result.{IsErrAnd}
use Rattle.std.proofs.lemmas.Result.{err_from_is_err_and}
use Rattle.floor.specs.Answers.{number_of}
use Rattle.fields.specs.Reached.{column_told}
use Rattle.fields.specs.Form.{column_past, lines_form}
use Rattle.fields.proofs.ReachedLaws.{reaches, line_refused, arrives, refuses_so}

-- The reader of k lines from a column on: it is past the first i lines, which are in good form.
pub record Along (form : ℕ → Verdict) (past : ℕ → ℕ) (at k i column : ℕ) : Type 0 where
  pub within : i ≤ k
  pub arrived : column ≡ column_past past at i
  pub good : lines_form form past at i ≡ passed

module _ (form : ℕ → Verdict) (past : ℕ → ℕ) (at n : ℕ) where
  -- It begins at the first line's first column.
  pub along_start : Along form past at n 0 at
  unfolding column_past lines_form
  along_start = record { within = omega arith; arrived = refl; good = turn_none _ }

  module _ (i column : ℕ) (h : Along form past at n i column) where
    -- Past a line in good form it is one line further.
    pub along_more : (c : ℕ) → i < n → column_told (Ok c) ≡ (form column gives past column) → Along form past at n (i + 1) c
    unfolding column_past lines_form
    along_more c l e =
        let r = reaches c (form column) (past column) e in
        record {
          within = omega arith;
          arrived = rw (add-one, ← h.arrived) r.1;
          good = turn_more _ i h.good (rw h.arrived at r.0);
        }

    -- The refusal of a line is the answer.
    pub along_stop : (y : Result ℕ Refusal) (x : Refusal) → i < n → column_told (Err x) ≡ (form column gives past column)
        → IsErrAnd y (λ d. d ≡ x) → column_told y ≡ (lines_form form past at n gives column_past past at n)
    unfolding lines_form
    along_stop y x l e g =
        let r = line_refused x (form column) (past column) e in
        let p = err_from_is_err_and y g in
        rw (
          p.1,
          p.2,
          turn_stop (λ (k : ℕ). form (column_past past at k)) i n (number_of x.reason) x.place l h.good (rw h.arrived at r),
        )
        (refuses_so x (column_past past at n) refl)

    -- Past the last line the column is the answer.
    pub along_end : n ≤ i → column_told (Ok column) ≡ (lines_form form past at n gives column_past past at n)
    along_end l =
        let last : i ≡ n = omega (arith, h.within, l) in
        let good = rw last at h.good in
        let arrived = rw last at h.arrived in
        rw (← arrived) (arrives column (sym good))

-- A column that lines of some length lead to: one line further, and before the last line.
pub low_next : (c d at longest i : ℕ) → c ≤ at + longest * i → d ≤ c + longest → d ≤ at + longest * (i + 1)
low_next c d at longest i l g = rw (mul-add longest i 1) (omega (arith, l, g))

pub low_yet : (c at longest i n : ℕ) → i < n → c ≤ at + longest * i → c ≤ at + longest * n
low_yet c at longest i n h l =
    let more : longest * i ≤ longest * n = mul-le-mul_left longest (omega arith) in
    omega (arith, l, more)
