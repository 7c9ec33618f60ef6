-- A floor without its last carrier (document 02, slip 5).
use Prim.Native.Nat.{ℕ, zero, suc, ◌+◌, ◌-◌, ◌≤◌, ◌<◌}
use native.Mathlib.Omega.{arith}
use mathlib.Core.List.{List, [], ◌∷◌, ◌++◌, append_assoc}
use mathlib.Core.Path.{◌≡◌, refl, sym, ◌∙◌, ap, ap₂}
use lib.ListN.{length, take, drop, length-append}
use lib.Seq.{take_all, take-suc, take_at, drop_at}
use borrow.Author.Tests.{eq-eqb, ne_eqb}
use Rattle.laws.specs.Verdict.{passed, All}
use Rattle.floor.specs.declared.Floor.{Floor}
use Rattle.floor.specs.Checks.{check_of, start_of, count_of, docks_of, dock_of, is_dock}
use Rattle.floor.specs.Accepted.{FieldWithin}
use Rattle.floor.proofs.Theorems.{theorems as floor-theorems}
use Rattle.route.specs.Route.{Answer, none, route}
use Rattle.sheet.specs.Text.{lines_of}
use Rattle.planner.specs.Plan.{plan_of, failing_from, failing_of}
use Rattle.planner.specs.Claims.{AgreeUpTo, answer_at}
use Rattle.planner.proofs.Theorems.{theorems as planner-theorems}
use Rattle.demands.specs.Shorter.{drop_last, failing_without}

-- The floor without its last carrier has the other carriers, and all else, of the floor.
module _ (f : Floor) (ws : List ℕ) (ok : check_of f ws ≡ passed) (more : 1 < f.carriers) where
  field_within_lem : All (FieldWithin f) 6 → All (FieldWithin (drop_last f)) 6
  unfolding FieldWithin drop_last
  field_within_lem h zero l = h 0 (omega arith)
  field_within_lem h (suc zero) l = h 1 (omega arith)
  field_within_lem h (suc (suc zero)) l = h 2 (omega arith)
  field_within_lem h (suc (suc (suc zero))) l = h 3 (omega arith)
  field_within_lem h (suc (suc (suc (suc zero)))) l = let w = h 4 (omega arith) in (omega arith, omega (arith, w.1))
  field_within_lem h (suc (suc (suc (suc (suc i))))) l = h 5 (omega arith)

  pub drop_accepted : check_of (drop_last f) ws ≡ passed
  unfolding drop_last start_of count_of docks_of dock_of
  drop_accepted =
      let h = (floor-theorems.passes_exactly f ws).0 ok in
      (floor-theorems.passes_exactly (drop_last f) ws).1
      (record {
        limited = field_within_lem h.limited;
        lent = h.lent;
        carriers_in_grid = λ i l. h.carriers_in_grid i (omega arith);
        walls_in_grid = h.walls_in_grid;
        rising = h.rising;
        clear = λ i l. h.clear i (omega arith);
        distinct = λ i l. h.distinct i (omega arith);
        unrepeated = λ i l. h.unrepeated i (omega arith);
      })

  agrees : AgreeUpTo (f.carriers - 1) f ws (drop_last f) ws
  unfolding drop_last start_of count_of docks_of is_dock
  agrees =
      record {
        width = refl;
        height = refl;
        horizon = refl;
        walls = refl;
        cells = λ j l. refl;
        starts = λ i l. refl;
        docks = λ i l c. refl;
      }

  pub drop_answers : plan_of (drop_last f) ws ≡ take (f.carriers - 1) (plan_of f ws)
  unfolding drop_last
  drop_answers =
      sym (take_all (f.carriers - 1) (plan_of (drop_last f) ws) (omega (arith, planner-theorems.answers_all (drop_last f) ws)))
      ∙ sym (planner-theorems.depends_on_above (f.carriers - 1) f ws (drop_last f) ws (omega arith) (omega arith) agrees)

-- The failing carrier of a list of answers without its last, the first being carrier k's.
failing_front : (k : ℕ) (xs : List Answer) (x : Answer) → 1 ≤ k →
    failing_from k xs ≡ failing_without (k + length xs) (failing_from k (xs ++ (x ∷ [])))
unfolding failing_from failing_without
failing_front k [] none l = rw (eq-eqb k (k + 0) (omega arith))
failing_front k [] (route r) l = rw (ne_eqb 0 (k + 0) (omega arith))
failing_front k (none ∷ xs) x l = rw (ne_eqb k (k + suc (length xs)) (omega arith))
failing_front k (route r ∷ xs) x l =
    let e : k + suc (length xs) ≡ suc k + length xs = omega arith in
    rw e (failing_front (suc k) xs x (omega arith))

module _ (f : Floor) (ws : List ℕ) (ok : check_of f ws ≡ passed) (more : 1 < f.carriers) where
  -- The answers are those of the others and the last one's.
  answers_split : plan_of f ws ≡ take (f.carriers - 1) (plan_of f ws) ++ (answer_at (plan_of f ws) (f.carriers - 1) ∷ [])
  unfolding answer_at
  answers_split =
      let size = planner-theorems.answers_all f ws in
      let next : suc (f.carriers - 1) ≡ f.carriers = omega arith in
      sym (take_all f.carriers (plan_of f ws) (omega arith))
      ∙ ap (λ (i : ℕ). take i (plan_of f ws)) (sym next)
      ∙ take-suc (plan_of f ws) (f.carriers - 1) none (omega arith)

  pub drop_failing : failing_of (plan_of (drop_last f) ws) ≡ failing_without f.carriers (failing_of (plan_of f ws))
  unfolding failing_of drop_last
  drop_failing =
      let front = drop_answers f ws ok more in
      let size = planner-theorems.answers_all (drop_last f) ws in
      let next : 1 + length (plan_of (drop_last f) ws) ≡ f.carriers = omega arith in
      let last = answer_at (plan_of f ws) (f.carriers - 1) in
      failing_front 1 (plan_of (drop_last f) ws) last (omega arith)
      ∙ ap₂ failing_without next (ap (λ (xs : List Answer). failing_from 1 (xs ++ (last ∷ []))) front
      ∙ ap (failing_from 1) (sym answers_split))

-- Lines, and all but the last.
pub lines_last : (line : ℕ → List ℕ) (n : ℕ) → 1 ≤ n → lines_of line n ≡ lines_of line (n - 1) ++ line (n - 1)
unfolding lines_of
lines_last line zero l = absurd (omega arith)
lines_last line (suc k) l = let e : suc k - 1 ≡ k = omega arith in rw e

-- A text of four parts behind each other, with another field in its front part, and without its last but one.
pub field_changed : (xs₁ old new xs₂ xs₃ xs₄ xs₅ : List ℕ) (k n : ℕ) → length xs₁ ≡ 20 → length old ≡ 5 → length (xs₂ ++ xs₃) ≡ k →
    25 + k + length xs₄ ≡ n →
    (take 20 ((xs₁ ++ (old ++ xs₂)) ++ ((xs₃ ++ xs₄) ++ xs₅))
    ++ (new ++ (take k (drop 25 ((xs₁ ++ (old ++ xs₂)) ++ ((xs₃ ++ xs₄) ++ xs₅)))
    ++ drop n ((xs₁ ++ (old ++ xs₂)) ++ ((xs₃ ++ xs₄) ++ xs₅)))))
    ≡ (xs₁ ++ (new ++ xs₂)) ++ (xs₃ ++ xs₅)
field_changed xs₁ old new xs₂ xs₃ xs₄ xs₅ k n ea eo em en =
    let text = (xs₁ ++ (old ++ xs₂)) ++ ((xs₃ ++ xs₄) ++ xs₅) in
    let front : text ≡ xs₁ ++ (old ++ ((xs₂ ++ xs₃) ++ (xs₄ ++ xs₅))) = simp append_assoc in
    let middle : text ≡ (xs₁ ++ old) ++ ((xs₂ ++ xs₃) ++ (xs₄ ++ xs₅)) = simp append_assoc in
    let back : text ≡ ((xs₁ ++ old) ++ ((xs₂ ++ xs₃) ++ xs₄)) ++ xs₅ = simp append_assoc in
    let size : length (xs₁ ++ old) ≡ 25 = length-append xs₁ old ∙ omega arith in
    let long : length ((xs₁ ++ old) ++ ((xs₂ ++ xs₃) ++ xs₄)) ≡ n =
    length-append (xs₁ ++ old) ((xs₂ ++ xs₃) ++ xs₄) ∙ omega (arith, length-append (xs₂ ++ xs₃) xs₄) in
    let one : take 20 text ≡ xs₁ = ap (take 20) front ∙ take_at xs₁ _ 20 ea in
    let two : take k (drop 25 text) ≡ xs₂ ++ xs₃ = ap (take k) (ap (drop 25) middle ∙ drop_at (xs₁ ++ old) _ 25 size)
    ∙ take_at (xs₂ ++ xs₃) _ k em in
    let three : drop n text ≡ xs₅ = ap (drop n) back ∙ drop_at ((xs₁ ++ old) ++ ((xs₂ ++ xs₃) ++ xs₄)) xs₅ n long in
    rw (one, two, three) (simp append_assoc)
