-- The complete runs: every listed one is complete, every complete one is listed, and how many there are at the most.
use Prim.Native.Nat.{ℕ, zero, suc, ◌*◌, ◌^◌, ◌≤◌, ◌<◌}
use native.Mathlib.Omega.{arith}
use native.Mathlib.Nat.{suc-mul, pow-succ', one-le-pow}
use mathlib.Core.Bool.{Bool, true, false}
use mathlib.Core.List.{List, [], ◌∷◌, ◌++◌}
use mathlib.Core.Path.{◌≡◌, refl, sym, ◌∙◌, ap, ap₂}
use lib.ListN.{length, get_or, length-append, length-map}
use borrow.Author.Tests.{lt-ltb}
use Rattle.laws.proofs.Tests.{and_both, true_false_absurd, not_true_is_false}
use Rattle.reference.specs.State.{Machine, State}
use Rattle.reference.specs.Step.{Step, plan, deliver, is_open, is_there}
use Rattle.reference.specs.Take.{after_step}
use Rattle.reference.specs.Ranking.{ranking, is_silent}
use Rattle.reference.proofs.OpenLaws.{plan_within, deliver_above, deliver_within}
use Rattle.reference.proofs.RankingLaws.{silent_shut}
use Rattle.reference.proofs.Potential.{potential}
use Rattle.reference.proofs.CeilingLaws.{step_lowers}
use Rattle.orders.specs.Orders.{places, step_at}
use Rattle.orders.proofs.PlaceLaws.{RankedPlace, there_place}
use Rattle.listing.specs.Runs.{Run, each_behind, beginning, runs_from}
use Rattle.listing.specs.Order.{Complete}
use Rattle.listing.proofs.ListLaws.{AllItems, all_append, HasPlace, placed_left, placed_right, placed_map}

module _ (opens : Step → Bool) (onward : Step → List Run) where
  pub begin_open : (x : Step) (xs : List Step) → opens x ≡ true →
      beginning opens onward (x ∷ xs) ≡ each_behind x (onward x) ++ beginning opens onward xs
  unfolding beginning
  begin_open x xs e = rw e

  pub begin_shut : (x : Step) (xs : List Step) → opens x ≡ false → beginning opens onward (x ∷ xs) ≡ beginning opens onward xs
  unfolding beginning
  begin_shut x xs e = rw e

  -- What holds of no run, and of the runs that begin with an open step in front of others, holds of the runs that begin with any.
  module _ (P : List Step → List Run → Type 0) (none : P [] [])
      (opened : (x : Step) (xs : List Step) (ys : List Run) → opens x ≡ true → P xs ys → P (x ∷ xs) (each_behind x (onward x) ++ ys))
      (shut : (x : Step) (xs : List Step) (ys : List Run) → opens x ≡ false → P xs ys → P (x ∷ xs) ys) where
    pub begin_induction : (xs : List Step) → P xs (beginning opens onward xs)
    unfolding beginning
    begin_induction [] = none
    begin_induction (x ∷ xs) = go (opens x) refl (begin_induction xs)
      where
        go : (y : Bool) → opens x ≡ y → P xs (beginning opens onward xs) → P (x ∷ xs) (beginning opens onward (x ∷ xs))
        go true e h = rw (begin_open x xs e) (opened x xs (beginning opens onward xs) e h)
        go false e h = rw (begin_shut x xs e) (shut x xs (beginning opens onward xs) e h)

-- Tests that agree, and runs that agree behind each open step, make the same list.
pub begin_same : (φ ψ : Step → Bool) (χ χ' : Step → List Run) → ((x : Step) → φ x ≡ ψ x) → ((x : Step) → ψ x ≡ true → χ x ≡ χ' x) →
    (xs : List Step) → beginning φ χ xs ≡ beginning ψ χ' xs
unfolding beginning
begin_same φ ψ χ χ' same goes [] = refl
begin_same φ ψ χ χ' same goes (x ∷ xs) = go (ψ x) refl (begin_same φ ψ χ χ' same goes xs)
  where
    go : (y : Bool) → ψ x ≡ y → beginning φ χ xs ≡ beginning ψ χ' xs → beginning φ χ (x ∷ xs) ≡ beginning ψ χ' (x ∷ xs)
    go true e rest =
        begin_open φ χ x xs (same x ∙ e) ∙ ap₂ ◌++◌ (ap (each_behind x) (goes x e)) rest ∙ sym (begin_open ψ χ' x xs e)
    go false e rest = begin_shut φ χ x xs (same x ∙ e) ∙ rest ∙ sym (begin_shut ψ χ' x xs e)

module _ (M : Machine) where
  pub runs_silent : (left : ℕ) (s : State) → is_silent M s ≡ true → runs_from M left s ≡ [] ∷ []
  unfolding runs_from
  runs_silent zero s e = rw (e, runs_from)
  runs_silent (suc left) s e = rw (e, runs_from)

  pub runs_spent : (s : State) → is_silent M s ≡ false → runs_from M 0 s ≡ []
  unfolding runs_from
  runs_spent s e = rw (e, runs_from)

  pub runs_more : (left : ℕ) (s : State) → is_silent M s ≡ false →
      runs_from M (suc left) s ≡ beginning (is_open M s) (λ x. runs_from M left (after_step M s x)) (ranking M.carriers)
  unfolding runs_from
  runs_more left s e = rw (e, runs_from)

  -- What holds of the runs from a silent state, from a state with no steps left and from a state whose open steps are gone on from.
  module _ (P : ℕ → State → List Run → Type 0) (silent : (left : ℕ) (s : State) → is_silent M s ≡ true → P left s ([] ∷ []))
      (spent : (s : State) → is_silent M s ≡ false → P 0 s [])
      (more : (left : ℕ) (s : State) (onward : Step → List Run) → is_silent M s ≡ false →
      ((x : Step) → P left (after_step M s x) (onward x)) → P (suc left) s (beginning (is_open M s) onward (ranking M.carriers))) where
    pub runs_induction : (left : ℕ) (s : State) → P left s (runs_from M left s)
    unfolding runs_from
    runs_induction zero s = go (is_silent M s) refl
      where
        go : (x : Bool) → is_silent M s ≡ x → P 0 s (runs_from M 0 s)
        go true e = rw (runs_silent 0 s e) (silent 0 s e)
        go false e = rw (runs_spent s e) (spent s e)
    runs_induction (suc left) s = go (is_silent M s) refl (λ x. runs_induction left (after_step M s x))
      where
        go : (y : Bool) → is_silent M s ≡ y → ((x : Step) → P left (after_step M s x) (runs_from M left (after_step M s x))) →
            P (suc left) s (runs_from M (suc left) s)
        go true e h = rw (runs_silent (suc left) s e) (silent (suc left) s e)
        go false e h = rw (runs_more left s e) (more left s (λ x. runs_from M left (after_step M s x)) e h)

  -- Every listed run is complete.
  pub runs_complete : (left : ℕ) (s : State) → AllItems (Complete M s) (runs_from M left s)
  unfolding AllItems Complete each_behind
  runs_complete =
      runs_induction (λ left s ys. AllItems (Complete M s) ys) (λ left s e. (e, tt)) (λ s e. tt)
      (λ left s onward e h.
      begin_induction (is_open M s) onward (λ xs ys. AllItems (Complete M s) ys) tt
      (λ x xs ys o g.
      all_append (Complete M s) (each_behind x (onward x)) ys (goes_on s x o (onward x) (h x)) g)
      (λ x xs ys o g. g) (ranking M.carriers))
    where
      goes_on : (s : State) (x : Step) → is_open M s x ≡ true → (ys : List Run) → AllItems (Complete M (after_step M s x)) ys →
          AllItems (Complete M s) (each_behind x ys)
      goes_on s x o [] h = tt
      goes_on s x o (xs ∷ ys) h = ((o, h.0), goes_on s x o ys h.1)

  -- A run that begins with an open step of the list, and goes on as one of those behind it, has a place.
  begin_placed : (s : State) (onward : Step → List Run) (x : Step) (ys : Run) → is_open M s x ≡ true → HasPlace [] ys (onward x) →
      (xs : List Step) (p : ℕ) → p < length xs → get_or xs p (plan 0) ≡ x → HasPlace [] (x ∷ ys) (beginning (is_open M s) onward xs)
  unfolding each_behind
  begin_placed s onward x ys o h [] p l e = absurd (omega arith)
  begin_placed s onward x ys o h (y ∷ xs) zero l e =
      rw (e, begin_open (is_open M s) onward x xs o)
      (placed_left [] (x ∷ ys) (each_behind x (onward x)) (beginning (is_open M s) onward xs) (in_front_lem x (onward x) h))
    where
      in_front_lem : (x : Step) (xs : List Run) → HasPlace [] ys xs → HasPlace [] (x ∷ ys) (each_behind x xs)
      in_front_lem x xs h = placed_map (λ (zs : Run). x ∷ zs) [] ys [] xs h
  begin_placed s onward x ys o h (y ∷ xs) (suc p) l e =
      go (is_open M s y) refl (begin_placed s onward x ys o h xs p (omega arith) e)
    where
      go : (z : Bool) → is_open M s y ≡ z → HasPlace [] (x ∷ ys) (beginning (is_open M s) onward xs) →
          HasPlace [] (x ∷ ys) (beginning (is_open M s) onward (y ∷ xs))
      go true q g =
          rw (begin_open (is_open M s) onward y xs q)
          (placed_right [] (x ∷ ys) (each_behind y (onward y)) (beginning (is_open M s) onward xs) g)
      go false q g = rw (begin_shut (is_open M s) onward y xs q) g

  -- An open step is there.
  open_there : (s : State) (x : Step) → is_open M s x ≡ true → is_there M x ≡ true
  unfolding is_there
  open_there s (plan i) e = lt-ltb i M.carriers (plan_within M s i e)
  open_there s (deliver j i) e = and_both (lt-ltb j i (deliver_above M s j i e)) (lt-ltb i M.carriers (deliver_within M s j i e))

  -- A state with an open step is not silent.
  open_not_silent : (s : State) (x : Step) → is_open M s x ≡ true → is_silent M s ≡ false
  open_not_silent s x o = not_true_is_false (is_silent M s) (λ (e : is_silent M s ≡ true). true_false_absurd o (silent_shut M s e x))

  -- Every complete run is listed, if as many steps are left as the state's potential tells.
  pub complete_placed : (left : ℕ) (s : State) (xs : Run) → Complete M s xs → potential M.carriers s ≤ left →
      HasPlace [] xs (runs_from M left s)
  unfolding Complete HasPlace places step_at
  complete_placed left s [] c l = rw (runs_silent left s c) (0, omega arith, refl)
  complete_placed zero s (x ∷ xs) c l = absurd (omega (arith, step_lowers M s x c.0))
  complete_placed (suc left) s (x ∷ xs) c l =
      let place = there_place M x (open_there s x c.0) in
      let rest = complete_placed left (after_step M s x) xs c.1 (omega (arith, step_lowers M s x c.0)) in
      rw (runs_more left s (open_not_silent s x c.0))
      (begin_placed s (λ y. runs_from M left (after_step M s y)) x xs c.0 rest (ranking M.carriers) place.0 (at_place place)
      (is_step place))
    where
      at_place : (p : RankedPlace M.carriers x) → p.0 < length (ranking M.carriers)
      at_place p = p.1

      is_step : (p : RankedPlace M.carriers x) → get_or (ranking M.carriers) p.0 (plan 0) ≡ x
      is_step p = p.2

  -- A complete run has at most as many steps as the state's potential tells.
  pub complete_short : (s : State) (xs : Run) → Complete M s xs → length xs ≤ potential M.carriers s
  unfolding Complete
  complete_short s [] c = omega arith
  complete_short s (x ∷ xs) c = omega (arith, complete_short (after_step M s x) xs c.1, step_lowers M s x c.0)

  -- With at most b runs behind each step of a list, at most b times its length begin with one of them.
  begin_few : (s : State) (onward : Step → List Run) (b : ℕ) → ((x : Step) → length (onward x) ≤ b) → (xs : List Step) →
      length (beginning (is_open M s) onward xs) ≤ length xs * b
  unfolding each_behind
  begin_few s onward b h =
      begin_induction (is_open M s) onward (λ xs ys. length ys ≤ length xs * b) (omega arith)
      (λ x xs ys o g. omega (arith, length-append (each_behind x (onward x)) ys, in_front_lem x (onward x), h x, g, suc-mul (length xs) b))
      (λ x xs ys o g. omega (arith, g, suc-mul (length xs) b))
    where
      in_front_lem : (x : Step) (xs : List Run) → length (each_behind x xs) ≡ length xs
      in_front_lem x xs = length-map xs (λ (zs : Run). x ∷ zs)

  -- There are at most as many runs as choices of a ranked step for each step that is left.
  pub runs_few : 1 ≤ places M.carriers → (left : ℕ) (s : State) → length (runs_from M left s) ≤ places M.carriers ^ left
  unfolding places
  runs_few l =
      runs_induction (λ left s ys. length ys ≤ places M.carriers ^ left)
      (λ left s e. one-le-pow left (places M.carriers) l) (λ s e. omega arith)
      (λ left s onward e h.
      rw (pow-succ' (places M.carriers) left)
      (begin_few s onward (places M.carriers ^ left) h (ranking M.carriers)))
