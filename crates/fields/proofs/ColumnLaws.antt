-- The columns of lines one behind the other: what good form tells of the next one, and how far they go.
use Prim.Native.Nat.{ℕ, zero, suc, ◌+◌, ◌*◌, ◌≤◌}
use native.Mathlib.Omega.{arith}
use mathlib.Core.Path.{◌≡◌}
use mathlib.Core.List.{List}
use Rattle.laws.specs.Verdict.{Verdict, passed, in_turn, Outcome, ◌gives◌}
use Rattle.laws.proofs.VerdictLaws.{then_both}
use Rattle.fields.specs.Field.{number_at}
use Rattle.fields.specs.Form.{counted_form, counted_length, past_counted, past_pair, column_past, lines_form, line_form}
use Rattle.std.specs.Prelude.{Ok}
use Rattle.fields.specs.Reached.{column_told}
use Rattle.fields.proofs.ReachedLaws.{reaches}
use Rattle.fields.proofs.CountLaws.{count_tells}

-- What a counted line in good form tells of its count.
pub counted_tells : (text : List ℕ) (at : ℕ) → counted_form text at ≡ passed
    → (1 ≤ number_at text (at + 10)) × (number_at text (at + 10) ≤ 4)
unfolding counted_form
counted_tells text at h =
    let a = then_both _ _ h in
    let b = then_both _ _ a.1 in
    let c = then_both _ _ b.1 in
    count_tells text (at + 10) c.0

-- A counted line that was read is at most 56 bytes long, and a line of two fields 11.
pub counted_near : (text : List ℕ) (at x : ℕ) → column_told (Ok x) ≡ (counted_form text at gives past_counted text at) → x ≤ at + 56
unfolding past_counted counted_length
counted_near text at x e =
    let r = reaches _ _ _ e in
    omega (arith, r.1, counted_tells text at r.0)

pub pair_near : (z : Verdict) (at x : ℕ) → column_told (Ok x) ≡ (z gives past_pair at) → x ≤ at + 11
unfolding past_pair
pair_near z at x e = omega (arith, (reaches _ _ _ e).1)

-- Counted lines in good form: each is at most 56 bytes long.
pub counted_columns : (text : List ℕ) (at i : ℕ) → lines_form (counted_form text) (past_counted text) at i ≡ passed
    → column_past (past_counted text) at i ≤ at + 56 * i
unfolding lines_form column_past past_counted counted_length in_turn
counted_columns text at zero h = omega arith
counted_columns text at (suc i) h =
    let b = then_both _ _ h in
    let n = counted_tells text (column_past (past_counted text) at i) b.1 in
    omega (arith, n.1, counted_columns text at i b.0)

-- Lines of two fields.
pub pair_columns : (at i : ℕ) → column_past past_pair at i ≡ at + 11 * i
unfolding column_past past_pair
pair_columns at zero = omega arith
pair_columns at (suc i) = omega (arith, pair_columns at i)

-- A line of two fields, and the rest of a counted line: the column past it.
pub pair_line : (x : Verdict) (at : ℕ) {o : Outcome ℕ} → o ≡ (x gives (at + 5 * 2 + 1)) → o ≡ (x gives past_pair at)
unfolding past_pair
pair_line x at e = let q : at + 5 * 2 + 1 ≡ at + 11 = omega arith in rw q at e

pub counted_last : (text : List ℕ) (at n : ℕ) {o : Outcome ℕ} → n ≡ number_at text (at + 10)
    → o ≡ (line_form text (at + 15) (2 * n) gives (at + 15 + 5 * (2 * n) + 1))
    → o ≡ (line_form text (at + 15) (2 * number_at text (at + 10)) gives past_counted text at)
unfolding past_counted counted_length
counted_last text at n e h =
    let q : at + 15 + 5 * (2 * n) + 1 ≡ at + (16 + 10 * n) = omega arith in
    rw (← e) (rw q at h)
