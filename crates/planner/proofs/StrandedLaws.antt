-- Answers among which nobody has none are seen as they are, so that both rules make the same plan of them.
use Prim.Native.Nat.{ℕ, zero, suc, ◌≤◌, ◌<◌}
use native.Mathlib.Omega.{arith}
use mathlib.Core.Path.{◌≡◌, refl, sym, ◌∙◌}
use mathlib.Core.List.{List, [], ◌∷◌, map}
use lib.ListN.{length, get_or, take, length-map, get_or-append}
use lib.Seq.{take_all, length-take-le}
use Rattle.floor.specs.declared.Floor.{Floor}
use Rattle.route.specs.Route.{Answer, none, View, unheard, heard}
use Rattle.route.specs.Sequential.{sequential}
use Rattle.records.specs.Seen.{seen}
use Rattle.search.proofs.SeenLaws.{plain_seen}
use Rattle.planner.specs.Claims.{answer_at}
use Rattle.planner.proofs.FailingLaws.{plan_count}

-- Answer j of the first k, as it is told.
pub told_answer : (xs : List Answer) (j k : ℕ) → j < k → k ≤ length xs → get_or (map heard (take k xs)) j unheard ≡ heard (answer_at xs j)
unfolding answer_at
told_answer [] j k l h = absurd (omega arith)
told_answer (x ∷ xs) j zero l h = absurd (omega arith)
told_answer (x ∷ xs) zero (suc k) l h = refl
told_answer (x ∷ xs) (suc j) (suc k) l h = told_answer xs j k (omega arith) (omega arith)

heard_same : (x : Answer) → heard x ≡ heard none → x ≡ none
heard_same x e = cc

-- Where the first k answers are routes, they are seen as they are.
pub routes_seen : (f : Floor) (xs : List Answer) (k : ℕ) → ((j : ℕ) → j < k → answer_at xs j ≡ none → ⊥) → k ≤ length xs →
    seen f (map heard (take k xs)) ≡ map heard (take k xs)
routes_seen f xs k h l =
    plain_seen f (map heard (take k xs))
    (λ j b e.
    let low : j < k = omega (arith, length-map (take k xs) heard, length-take-le k xs l) in
    h j low (heard_same (answer_at xs j) (sym (told_answer xs j k low l) ∙ e)))

-- Two responses that agree where views are seen as they are make the same plan, if the first one leaves nobody with none.
pub rules_agree : (f : Floor) (φ ψ : ℕ → List View → Answer) (k : ℕ) → ((i : ℕ) (vs : List View) → seen f vs ≡ vs → φ i vs ≡ ψ i vs) →
    ((j : ℕ) → j < k → answer_at (sequential φ k) j ≡ none → ⊥) → sequential φ k ≡ sequential ψ k
unfolding sequential answer_at
rules_agree f φ ψ zero same h = refl
rules_agree f φ ψ (suc k) same h =
    let xs = sequential φ k in
    let count : length xs ≡ k = plan_count φ k in
    let routes : (j : ℕ) → j < k → answer_at xs j ≡ none → ⊥ =
    λ j l e. h j (omega arith) (get_or-append xs _ none j (omega arith) ∙ e)
    in
    let whole : take k xs ≡ xs = take_all k xs (omega arith) in
    let plain : seen f (map heard xs) ≡ map heard xs = rw whole at (routes_seen f xs k routes (omega arith)) in
    let here : φ k (map heard xs) ≡ ψ k (map heard xs) = same k (map heard xs) plain in
    rw (here, rules_agree f φ ψ k same routes) refl
