-- A run as a loop: before the first step, one more step tried, the budget used up, the list's end.
use Prim.Native.Nat.{ℕ, suc, ◌+◌, ◌-◌, ◌≤◌, ◌<◌}
use native.Mathlib.Omega.{arith}
use native.Mathlib.Nat.{zero-add}
use native.Mathlib.Numerals.{add-one}
use mathlib.Core.Bool.{Bool, true, false}
use mathlib.Core.List.{List, ◌∷◌, map}
use mathlib.Core.Path.{◌≡◌, refl, sym, ◌∙◌, ap}
use lib.Dec.{ltb}
use lib.ListN.{length, get_or, drop, drop_of_length-le}
use lib.Seq.{drop-cons}
use borrow.Author.Tests.{lt-ltb, le-ltb}
use Rattle.reference.specs.State.{Machine}
use Rattle.reference.specs.Calls.{ran}
use Rattle.encoding.specs.Numbers.{asked_by}
use Rattle.encoding.specs.InnerSteps.{silent_in}
use Rattle.encoding.specs.InnerRuns.{RanIn, took_one, run_in, ending_in}
use Rattle.encoding.proofs.RunLaws.{took_in, skipped_in}
use Rattle.std.specs.Int.{from_bool}
use Rattle.std.specs.Prelude.{Result}
use Rattle.std.specs.Result.{IsErrAnd}
use Rattle.std.proofs.lemmas.Result.{err_from_is_err_and}
use Rattle.floor.specs.declared.Refusal.{Refusal}
use Rattle.machine.specs.declared.runs.Run.{Run}
use Rattle.machine.specs.Answers.{taken_number}
use Rattle.machine.specs.Inner.{Running, Attempted, took, skipped, Tallied, ends_with}

module _ (M : Machine) (m₀ xs : List ℕ) (b : ℕ) where
  pub running_start : Running M m₀ xs b m₀ 0 0
  running_start =
      let all : run_in M m₀ (map asked_by xs) b ≡ run_in M m₀ (map asked_by (drop 0 xs)) (b - 0) =
      ap (λ (k : ℕ). run_in M m₀ (map asked_by xs) k) (omega arith) in
      record {
        kept = refl;
        memory = ap (λ (x : RanIn). x.memory) all;
        taken = ap (λ (x : RanIn). x.taken) all ∙ sym (zero-add (run_in M m₀ (map asked_by (drop 0 xs)) (b - 0)).taken);
        left = ap (λ (x : RanIn). x.left) all;
      }

  -- The next step of the list.
  next : (p : ℕ) → p < length xs → map asked_by (drop p xs) ≡ asked_by (get_or xs p 0) ∷ map asked_by (drop (p + 1) xs)
  next p l = rw (add-one, drop-cons xs p 0 l) refl

  -- The run from here on comes to z, which is the run from the next step on with n steps more.
  goes_on : (m m' : List ℕ) (p t n : ℕ) (z : RanIn) → length m' ≡ length m → Running M m₀ xs b m p t →
      run_in M m (map asked_by (drop p xs)) (b - t) ≡ z →
      let y : RanIn = run_in M m' (map asked_by (drop (p + 1) xs)) (b - (t + n)) in
      (z.memory ≡ y.memory) × ((z.taken ≡ n + y.taken) × (z.left ≡ y.left)) → Running M m₀ xs b m' (p + 1) (t + n)
  goes_on m m' p t n z k s step same =
      record {
        kept = k ∙ s.kept;
        memory = s.memory ∙ ap (λ (x : RanIn). x.memory) step ∙ same.0;
        taken = s.taken ∙ omega (arith, same.1.0, ap (λ (x : RanIn). x.taken) step);
        left = s.left ∙ ap (λ (x : RanIn). x.left) step ∙ same.1.1;
      }

  -- One more step of the list, tried, which counts for n.
  pub running_more : (m m' : List ℕ) (p t n : ℕ) {taken : Bool} → p < length xs → t < b → length m' ≡ length m → Running M m₀ xs b m p t →
      Attempted M m (asked_by (get_or xs p 0)) taken m' → n ≡ from_bool taken → Running M m₀ xs b m' (p + 1) (t + n)
  unfolding took_one
  running_more m m' p t n l h k s (took e said g) q =
      let one : n ≡ 1 = q ∙ ap from_bool said in
      let less : b - t ≡ suc (b - (t + 1)) = omega arith in
      let rest = map asked_by (drop (p + 1) xs) in
      let step : run_in M m (map asked_by (drop p xs)) (b - t) ≡ took_one (run_in M m' rest (b - (t + n))) =
      rw (next p l, less, took_in M m (asked_by (get_or xs p 0)) rest (b - (t + 1)) e, one, sym g) refl
      in
      goes_on m m' p t n _ k s step (refl, (omega (arith, one), refl))
  running_more m m' p t n l h k s (skipped e said g) q =
      let none : n ≡ 0 = q ∙ ap from_bool said in
      let less : b - t ≡ suc (b - (t + 1)) = omega arith in
      let same : b - (t + n) ≡ suc (b - (t + 1)) = omega arith in
      let rest = map asked_by (drop (p + 1) xs) in
      let step : run_in M m (map asked_by (drop p xs)) (b - t) ≡ run_in M m' rest (b - (t + n)) =
      rw (next p l, less, skipped_in M m (asked_by (get_or xs p 0)) rest (b - (t + 1)) e, same, sym g) refl
      in
      goes_on m m' p t n _ k s step (refl, (omega (arith, none), refl))

  -- The run reads no further: what it has come to.
  stops : (m : List ℕ) (left : Bool) (p t : ℕ) → t ≤ b → Running M m₀ xs b m p t →
      run_in M m (map asked_by (drop p xs)) (b - t) ≡ record { memory = m; taken = 0; left = left } → ltb p (length xs) ≡ left →
      Tallied (run_in M m₀ (map asked_by xs) b) b (length xs) t p m
  stops m left p t h s stop e =
      record {
        number = omega (arith, s.taken, ap (λ (x : RanIn). x.taken) stop);
        within = h;
        left = e ∙ sym (s.left ∙ ap (λ (x : RanIn). x.left) stop);
        memory = sym (s.memory ∙ ap (λ (x : RanIn). x.memory) stop);
      }

  -- The budget is used up.
  pub running_spent : (m : List ℕ) (p t : ℕ) → p < length xs → t ≤ b → b ≤ t → Running M m₀ xs b m p t →
      Tallied (run_in M m₀ (map asked_by xs) b) b (length xs) t p m
  unfolding run_in
  running_spent m p t l h k s =
      let none : b - t ≡ 0 = omega arith in
      stops m true p t h s (rw (next p l, none) refl) (lt-ltb p (length xs) l)

  -- The list is read to its end.
  pub running_end : (m : List ℕ) (p t : ℕ) → length xs ≤ p → t ≤ b → Running M m₀ xs b m p t →
      Tallied (run_in M m₀ (map asked_by xs) b) b (length xs) t p m
  unfolding run_in
  running_end m p t l h s = stops m false p t h s (rw (drop_of_length-le xs l) refl) (le-ltb p (length xs) l)

-- A step tried takes one step at most.
pub tried_one : (taken : Bool) {n : ℕ} → n ≡ from_bool taken → n ≤ 1
tried_one true q = omega arith
tried_one false q = omega arith

-- The answer of a run, from what its loop has come to.
pub ran_is : (M : Machine) (x : RanIn) (b listed taken read : ℕ) (m : List ℕ) → Tallied x b listed taken read m →
    ran taken (ends_with (silent_in M m) taken b read listed) ≡ ran x.taken (ending_in M b x)
unfolding ending_in ends_with
ran_is M x b listed taken read m h = rw (h.memory, h.left, h.number) refl

-- A run that is refused takes no step.
pub refused_none : (y : Result Run Refusal) (e : Refusal) (b : ℕ) → IsErrAnd y (λ d. d ≡ e) → taken_number y ≤ b
unfolding taken_number
refused_none y e b r = let p = err_from_is_err_and y r in rw p.1 (omega arith)
