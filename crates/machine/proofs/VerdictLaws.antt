-- What passed checks tell, and what the checks of an entry come to.
use Prim.Native.Nat.{ℕ, zero, suc, ◌≤◌, ◌<◌}
use native.Mathlib.Omega.{arith}
use native.Mathlib.Nat.{zero-add}
use mathlib.Core.Bool.{Bool, true, false}
use mathlib.Core.List.{List, [], ◌∷◌, map}
use mathlib.Core.Path.{◌≡◌, refl, sym, ◌∙◌, ap}
use lib.ListN.{length, get_or, length-map}
use mathlib.Core.Logic.{◌↔◌}
use Rattle.std.specs.Prelude.{Result, Err, ⊤}
use Rattle.std.specs.Result.{IsErrAnd}
use Rattle.std.specs.List.{AllWithin, HoldsAt}
use Rattle.std.proofs.lemmas.Result.{err_from_is_err_and}
use Rattle.laws.specs.Verdict.{Verdict, passed, refused, ◌then◌, demand, demand_each, Outcome, refusal}
use Rattle.laws.proofs.EachLaws.{all_passes, first_refuses}
use Rattle.laws.proofs.Tests.{true_false_absurd}
use Rattle.floor.specs.declared.Refusal.{Refusal}
use Rattle.floor.specs.Answers.{number_of, verdict_of, outcome_by}
use Rattle.laws.proofs.VerdictLaws.{then_both, demand_same}
use Rattle.floor.specs.declared.Floor.{Floor}
use Rattle.floor.specs.Checks.{check_of}
use Rattle.floor.proofs.LimitsLaws.{limited_bounds, length_passed}
use Rattle.floor.proofs.Theorems.{theorems}
use Rattle.reference.specs.Table.{no_step, is_named, all_named}
use Rattle.encoding.specs.Numbers.{asked_by}
use Rattle.encoding.specs.Calls.{machine_of, place_verdict, state_verdict}
use Rattle.steps.specs.Inner.{bare, Placed}
use Rattle.steps.proofs.OpenLaws.{named_of}
use Rattle.machine.specs.Inner.{named_at}

pub checked_few : (f : Floor) (ws : List ℕ) → check_of f ws ≡ passed → f.carriers ≤ 8
checked_few f ws h = (limited_bounds f ((theorems.passes_exactly f ws).0 h).limited).carriers.1

pub place_tells : (f : Floor) (ws : List ℕ) (lent : ℕ) → place_verdict f ws lent ≡ passed → Placed f ws lent
unfolding place_verdict
place_tells f ws lent h =
    let a = then_both _ _ h in
    record { accepted = (theorems.passes_exactly f ws).0 a.0; enough = length_passed _ _ a.1 }

pub state_tells : (f : Floor) (ws m : List ℕ) → state_verdict f ws m ≡ passed → Placed f ws (length m)
unfolding state_verdict
state_tells f ws m h = place_tells f ws (length m) (then_both _ _ h).0

-- The names of a list as the code tests them.
pub names_are : (f : Floor) (ws xs : List ℕ) →
    demand_each 7 0 (named_at f xs) (length xs) ≡ all_named (machine_of f ws) (map asked_by xs)
unfolding all_named named_at
names_are f ws xs =
    demand_same 7 0 (named_at f xs) (λ p. is_named (machine_of f ws) (get_or (map asked_by xs) p no_step)) (length xs)
    (λ p l. named_of f ws (asked_by (get_or xs p 0)) ∙ ap (is_named (machine_of f ws)) (sym (mapped xs p l)))
    ∙ rw (length-map xs asked_by) refl
  where
    mapped : (ys : List ℕ) (p : ℕ) → p < length ys → get_or (map asked_by ys) p no_step ≡ asked_by (get_or ys p 0)
    mapped [] p l = absurd (omega arith)
    mapped (y ∷ ys) zero l = refl
    mapped (y ∷ ys) (suc p) l = mapped ys p (omega arith)

-- The first number of a list that names no step that is there, found by the library.
module _ (f : Floor) (xs : List ℕ) where
  abbrev pub Names : ℕ → Type 0
  Names x = is_named (bare f) (asked_by x) ≡ true

  abbrev pub NamesNot : ℕ → Type 0
  NamesNot x = is_named (bare f) (asked_by x) ≡ false

  means : (i : ℕ) → (named_at f xs i ≡ true) ↔ (named_at f xs i ≡ true)
  means i = (λ e. e, λ e. e)

  pub all_names : AllWithin Names xs 0 (length xs) → demand_each 7 0 (named_at f xs) (length xs) ≡ passed
  unfolding named_at
  all_names h = all_passes 7 0 (named_at f xs) (λ i. named_at f xs i ≡ true) means (length xs) (λ i l. h i 0 (omega arith) l)

  pub first_unnamed : (i : ℕ) → (i < length xs) × HoldsAt NamesNot xs i × AllWithin Names xs 0 i
      → demand_each 7 0 (named_at f xs) (length xs) ≡ refused 7 i
  unfolding named_at
  first_unnamed i (l, n, h) =
      first_refuses 7 0 (named_at f xs) (λ i. named_at f xs i ≡ true) means (length xs) i
      (record { listed = l; fails = λ t. true_false_absurd t (n 0); before = λ j k. h j 0 (omega arith) k })
      ∙ ap (refused 7) (zero-add i)

-- A check before others: the test that it makes holds, or it refuses.
pub then_yes : {x y : Verdict} {z z' : Bool} (k p : ℕ) → z ≡ z' → z ≡ true → x ≡ y → x ≡ (demand z' k p then y)
unfolding demand ◌then◌
then_yes k p e h g = rw (← e, h) g

pub then_no : {y z : Bool} (k p : ℕ) (x' : Verdict) → y ≡ z → y ≡ false → refused k p ≡ (demand z k p then x')
unfolding demand ◌then◌
then_no k p x' e h = rw (← e, h) refl

-- The last one.
pub last_yes : {z z' : Bool} (k p : ℕ) → z ≡ z' → z ≡ true → passed ≡ demand z' k p
unfolding demand
last_yes k p e h = rw (← e, h) refl

pub last_no : {z z' : Bool} (k p : ℕ) → z ≡ z' → z ≡ false → refused k p ≡ demand z' k p
unfolding demand
last_no k p e h = rw (← e, h) refl

-- A refusal that a `?` hands on is the verdict of the whole.
pub hands_on : (y : Result ⊤ Refusal) (e : Refusal) {z : Verdict} → verdict_of (Err e) ≡ z → IsErrAnd y (λ d. d ≡ e) → verdict_of y ≡ z
hands_on y e h r = let p = err_from_is_err_and y r in rw (p.1, p.2) h

pub refuses_on : {A B : Type 0} (means : A → B) (y : Result A Refusal) (e : Refusal) {o : Outcome B}
    → refusal (number_of e.reason) e.place ≡ o → IsErrAnd y (λ d. d ≡ e) → outcome_by means y ≡ o
unfolding outcome_by
refuses_on means y e h r = let p = err_from_is_err_and y r in rw (p.1, p.2) h

-- The refusal that a `?` met.
pub met_refused : (e : Refusal) {z : Verdict} → verdict_of (Err e) ≡ z → z ≡ refused (number_of e.reason) e.place
unfolding verdict_of
met_refused e h = sym h
