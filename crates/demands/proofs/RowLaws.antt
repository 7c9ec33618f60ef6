-- Laws of tables of refusals: a chain of checks has the rows of its parts in order, and what is stored only where the checks pass is kept.
use Prim.Native.Nat.{ℕ, ◌≤◌, ◌<◌}
use native.Mathlib.Omega.{arith}
use mathlib.Core.Bool.{Bool, false}
use mathlib.Core.List.{List}
use mathlib.Core.Logic.{◌↔◌}
use mathlib.Core.Path.{◌≡◌, refl, sym, ◌∙◌}
use lib.ListN.{length, drop}
use borrow.Author.Tests.{leb-false, lt-leb}
use Rattle.laws.specs.Verdict.{Verdict, passed, refused, ◌then◌, demand, Outcome, value, refusal, ◌gives◌, ◌then_answers◌, when_passed}
use Rattle.laws.proofs.VerdictLaws.{refused_by, refused_not_passed, refused_same, demand_cases, demand_refuses, then_passed, then_refused}
use Rattle.floor.specs.Checks.{long_enough}
use Rattle.demands.specs.Rows.{Table, Row, row, Short, ◌or_else◌, earlier, later, Refuses, Answers, Keeps}

-- A value is no refusal.
pub value_no_refusal : {A : Type 0} {x : A} {k p : ℕ} → value x ≡ refusal k p → ⊥
value_no_refusal h = let z : ◌≡◌ {A = ℕ} 0 1 = cc in omega arith

-- Equal refusals are equal answers, and back.
pub refusal_same : {A : Type 0} {k k' p p' : ℕ} → ◌≡◌ {A = Outcome A} (refusal k p) (refusal k' p') → (k ≡ k') × (p ≡ p')
refusal_same e = ((cc), (cc))

-- A check whose rows do not hold passes.
pub no_row_passes : {R : Table} (x : Verdict) → Refuses x R → ((k p : ℕ) → R k p → ⊥) → x ≡ passed
no_row_passes passed t n = refl
no_row_passes (refused k p) t n = absurd (n k p ((t k p).0 refl))

-- A check that passes has no row that holds.
pub passes_no_row : {R : Table} {x : Verdict} → Refuses x R → x ≡ passed → (k p : ℕ) → R k p → ⊥
passes_no_row t e k p r = refused_not_passed (sym ((t k p).1 r) ∙ e)

pub passes_exactly : {R : Table} (x : Verdict) → Refuses x R → (x ≡ passed) ↔ ((k p : ℕ) → R k p → ⊥)
passes_exactly x t = (passes_no_row t, no_row_passes x t)

-- One check after another; the second needs to be looked at only where the first passes.
pub then_rows : {R S : Table} (x y : Verdict) → Refuses x R → (x ≡ passed → Refuses y S) → Refuses (x then y) (R or_else S)
then_rows {R} {S} x y t u k p = (
  λ h. refused_by h (λ r. earlier ((t k p).0 r)) (λ e r. later (passes_no_row t e) ((u e k p).0 r)),
  back,
)
  where
    back : (R or_else S) k p → (x then y) ≡ refused k p
    back (earlier r) = then_refused y ((t k p).1 r)
    back (later n s) = let e = no_row_passes x t n in then_passed e ∙ (u e k p).1 s

-- An answer after a check.
pub answers_rows : {A : Type 0} {R S : Table} (x : Verdict) (y : Outcome A) → Refuses x R → (x ≡ passed → Answers y S)
    → Answers (x then_answers y) (R or_else S)
unfolding ◌then_answers◌
answers_rows {A} {R} {S} passed y t u k p = (λ h. later (passes_no_row t refl) ((u refl k p).0 h), back)
  where
    back : (R or_else S) k p → y ≡ refusal k p
    back (earlier r) = absurd (refused_not_passed (sym ((t k p).1 r)))
    back (later n s) = (u refl k p).1 s
answers_rows {A} {R} {S} (refused k' p') y t u k p = (λ h. earlier (rw ((refusal_same h).0, (refusal_same h).1) at ((t k' p').0 refl)), back)
  where
    back : (R or_else S) k p → ◌≡◌ {A = Outcome A} (refusal k' p') (refusal k p)
    back (earlier r) = let e = refused_same ((t k p).1 r) in rw (e.0, e.1)
    back (later n s) = absurd (n k' p' ((t k' p').0 refl))

-- A value given where the checks pass.
pub gives_rows : {A : Type 0} {R : Table} (x : Verdict) (y : A) → Refuses x R → Answers (x gives y) R
unfolding ◌gives◌
gives_rows passed y t k p = (λ h. absurd (value_no_refusal h), λ r. absurd (passes_no_row t refl k p r))
gives_rows (refused k' p') y t k p = (
  λ h. rw ((refusal_same h).0, (refusal_same h).1) at ((t k' p').0 refl),
  λ r. let e = refused_same ((t k p).1 r) in rw (e.0, e.1),
)

-- A single test is a table of one row.
pub demand_row : {W : Type 0} (x : Bool) (k' p' : ℕ) → (x ≡ false) ↔ W → Refuses (demand x k' p') (Row k' p' W)
demand_row {W} x k' p' h k p = (λ e. let c = demand_cases x k' p' k p e in rw (c.1, c.2) (row (h.0 c.0)), back k p)
  where
    back : (k p : ℕ) → Row k' p' W k p → demand x k' p' ≡ refused k p
    back k p (row w) = demand_refuses k' p' (h.1 w)

pub short_row : (needed lent : ℕ) → Refuses (long_enough needed lent) (Short lent needed)
unfolding long_enough
short_row needed lent = demand_row _ 9 0 (leb-false _ _, lt-leb _ _)

-- A refusal is a table of one row that always holds.
pub refusal_row : {A : Type 0} (k' p' : ℕ) → Answers {A = A} (refusal k' p') (Row k' p' (Unit {0}))
refusal_row {A} k' p' k p = (λ h. rw (← (refusal_same h).0, ← (refusal_same h).1) (row tt), back k p)
  where
    back : (k p : ℕ) → Row k' p' (Unit {0}) k p → ◌≡◌ {A = Outcome A} (refusal k' p') (refusal k p)
    back k p (row w) = refl

-- Memory that is stored where the checks pass.
pub keeps_when : {R : Table} {needed : ℕ} {old : List ℕ} (new : List ℕ) (x : Verdict) → Refuses x R
    → (x ≡ passed → drop needed new ≡ drop needed old) → Keeps R needed old (when_passed x new old)
unfolding when_passed
keeps_when new passed t h = record { as_found = λ k p r. absurd (passes_no_row t refl k p r); beyond = h refl }
keeps_when new (refused k' p') t h = record { as_found = λ k p r. refl; beyond = refl }
