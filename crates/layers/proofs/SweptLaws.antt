-- Steps beat after beat, to later beats or back to earlier ones.
use Prim.Native.Nat.{ℕ, ◌+◌, ◌*◌, ◌≤◌, ◌<◌}
use native.Mathlib.Omega.{arith}
use native.Mathlib.Nat.{eq-or-lt_of_le}
use mathlib.Core.Bool.{Bool, true, false}
use mathlib.Core.List.{List}
use mathlib.Core.Logic.{⊎_elim}
use mathlib.Core.Path.{◌≡◌, refl, sym, ◌∙◌}
use lib.ListN.{get_or}
use Rattle.laws.proofs.Tests.{true_false_absurd}
use Rattle.layers.specs.declared.SearchGrid.{SearchGrid}
use Rattle.layers.specs.Table.{Grid, Tidy, Rewritten, in_set}
use Rattle.layers.specs.Stripes.{four, stripes_of, step_word}
use Rattle.layers.specs.Step.{ChangedAt, Beside, Spread, beat_after, Within, Swept}
use Rattle.layers.proofs.StepLaws.{step_changed, step_spreads}

-- The beats of n steps: the first, the next one, all of them in the table, none twice.
pub beat_first : (back : Bool) (t : ℕ) → t ≡ beat_after back t 0
unfolding beat_after
beat_first true t = omega arith
beat_first false t = omega arith

pub within_low : (back : Bool) (t n : ℕ) → Within back t n → t < 64
unfolding Within
within_low true t n w = w.0
within_low false t n w = omega arith

pub within_few : (back : Bool) (t n : ℕ) → Within back t n → n < 64
unfolding Within
within_few true t n w = omega arith
within_few false t n w = omega arith

pub beat_next : (back : Bool) (t i : ℕ) → beat_after back (beat_after back t i) 1 ≡ beat_after back t (i + 1)
unfolding beat_after
beat_next true t i = omega arith
beat_next false t i = omega arith

pub beat_low : (back : Bool) (t n i : ℕ) → Within back t n → i ≤ n → beat_after back t i < 64
unfolding beat_after Within
beat_low true t n i w l = omega arith
beat_low false t n i w l = omega arith

pub beat_some : (back : Bool) (t n i : ℕ) → Within back t n → i < n → back ≡ true → 0 < beat_after back t i
unfolding beat_after Within
beat_some true t n i w l e = omega arith
beat_some false t n i w l e = true_false_absurd refl (sym e)

beats_apart : (back : Bool) (t n j i : ℕ) → Within back t n → j ≤ i → i < n → beat_after back t j ≡ beat_after back t (i + 1) → ⊥
unfolding beat_after Within
beats_apart true t n j i w l h e = omega arith
beats_apart false t n j i w l h e = omega arith

-- A step between two beats is one in every table with the same sets then.
pub spread_same : (g : SearchGrid) (table sets after : List ℕ) (a b : ℕ) → ((c : ℕ) → in_set g after a c ≡ in_set g sets a c) →
    ((c : ℕ) → in_set g after b c ≡ in_set g sets b c) → Spread g table sets a b → Spread g table after a b
spread_same g table sets after a b from to x =
    record {
      says = λ d e. let y = x.says d (sym (to d) ∙ e) in (y.0, to_new d y.1);
      holds = λ d i y. to d ∙ x.holds d i (to_old d y);
    }
  where
    to_new : (d : ℕ) → Beside g sets a d → Beside g after a d
    to_new d (c, e, u) = (c, from c ∙ e, u)

    to_old : (d : ℕ) → Beside g after a d → Beside g sets a d
    to_old d (c, e, u) = (c, sym (from c) ∙ e, u)

pub swept_none : (g : SearchGrid) (table sets : List ℕ) (t : ℕ) (back : Bool) → Tidy g sets → Swept g table sets t back 0 sets
swept_none g table sets t back tidy = record { tidy = tidy; spreads = λ i l. absurd (omega arith); kept = λ u c h. refl }

-- One step more.
swept_more : (g : SearchGrid) (table sets then after : List ℕ) (t : ℕ) (back : Bool) (n i : ℕ) → Within back t n → i < n →
    Swept g table sets t back i then → ChangedAt g then (beat_after back t (i + 1)) after →
    Spread g table after (beat_after back t i) (beat_after back t (i + 1)) → Swept g table sets t back (i + 1) after
swept_more g table sets then after t back n i within few old only new =
    record {
      tidy = only.tidy;
      spreads = λ j l. ⊎_elim (λ (e : j ≡ i). rw e new)
          (λ (e : j < i). spread_same g table then after (beat_after back t j) (beat_after back t (j + 1))
          (same j (omega arith)) (same (j + 1) (omega arith)) (old.spreads j e)) (eq-or-lt_of_le (omega arith));
      kept = λ u c h. only.other u c (h i (omega arith)) ∙ old.kept u c (λ j l. h j (omega arith));
    }
  where
    same : (j : ℕ) → j ≤ i → (c : ℕ) → in_set g after (beat_after back t j) c ≡ in_set g then (beat_after back t j) c
    same j l c = only.other (beat_after back t j) c (beats_apart back t n j i within l few)

four_same : (value other : ℕ → ℕ) (i : ℕ) → value i ≡ other i → value (i + 1) ≡ other (i + 1) → value (i + 2) ≡ other (i + 2) →
    value (i + 3) ≡ other (i + 3) → four value i ≡ four other i
unfolding four
four_same value other i p q r s = rw (p, q, r, s) refl

-- The same words, said in another way.
pub stripes_same : (value other : ℕ → ℕ) → ((j : ℕ) → j < 32 → value j ≡ other j) → stripes_of value ≡ stripes_of other
unfolding stripes_of
stripes_same value other same = rw (
  part 0 (omega arith),
  part 4 (omega arith),
  part 8 (omega arith),
  part 12 (omega arith),
  part 16 (omega arith),
  part 20 (omega arith),
  part 24 (omega arith),
  part 28 (omega arith),
) refl
  where
    part : (i : ℕ) → i + 3 < 32 → four value i ≡ four other i
    part i l = four_same value other i (same i (omega arith)) (same (i + 1) (omega arith)) (same (i + 2) (omega arith)) (same (i + 3) l)

-- The turn of the loop: the stripes are the set of beat t, and are written, one step on, as that of the next beat.
pub swept_step : (g : SearchGrid) (table sets then after : List ℕ) (from t u n i : ℕ) (back : Bool) → Grid g → Tidy g table →
    Within back from n → i < n → t ≡ beat_after back from i → u ≡ beat_after back t 1 → Swept g table sets from back i then →
    Rewritten then (step_word (λ j. get_or then (t * 32 + j) 0) (λ j. get_or table (u * 32 + j) 0)) (u * 32) 32 after →
    Swept g table sets from back (i + 1) after
swept_step g table sets then after from t u n i back grid ground within few e f old x =
    swept_more g table sets then after from back n i within few old (rw next at changed) (rw (e, next) at spreads)
  where
    next : u ≡ beat_after back from (i + 1)
    next = f ∙ rw e (beat_next back from i)

    low : u < 64
    low = rw next (beat_low back from n (i + 1) within (omega arith))

    apart : t ≡ u → ⊥
    apart p = beats_apart back from n i i within (omega arith) few (sym e ∙ p ∙ next)

    changed : ChangedAt g then u after
    changed = step_changed g table then after t u grid old.tidy ground low apart x

    spreads : Spread g table after t u
    spreads = step_spreads g table then after t u grid old.tidy ground low apart x
