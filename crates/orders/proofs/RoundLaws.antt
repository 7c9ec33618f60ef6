-- Order 2 is fair: going round, the way from the remembered place to the place p' of a step that stays open grows shorter with every
-- step taken, as long as it is not that step. The way is shorter than the ranking at first, so the stretch is.
use Prim.Native.Nat.{ℕ, suc, ◌+◌, ◌-◌, ◌≤◌, ◌<◌}
use native.Mathlib.Omega.{arith}
use mathlib.Core.Bool.{true, false}
use mathlib.Core.List.{List, [], ◌∷◌, ◌++◌}
use mathlib.Core.Logic.{◌⊎◌, inl, inr, ⊎_elim}
use mathlib.Core.Path.{◌≡◌, sym, ◌∙◌, ap, subst}
use lib.ListN.{length}
use Rattle.laws.proofs.Tests.{lt_or_le, true_false_absurd}
use Rattle.reference.specs.State.{Machine, State}
use Rattle.reference.specs.Step.{Step}
use Rattle.reference.specs.Take.{after_step}
use Rattle.reference.specs.History.{after_steps}
use Rattle.orders.specs.Orders.{round, places, step_at, open_at, remembered}
use Rattle.orders.specs.Trial.{Entry, steps_in}
use Rattle.orders.specs.Rules.{FirstRound, onward, around, MayTake, FollowsOrder, PassedOver}
use Rattle.orders.proofs.PlaceLaws.{places_split}
use Rattle.orders.proofs.RuleLaws.{open_place}

-- Going round k places from place c, place p is reached after d others.
unfoldable Way : ℕ → ℕ → ℕ → ℕ → Type 0
Way k c p d = (c + d ≡ p) ⊎ ((p < c) × (c + d ≡ k + p))

way_start : (k kept p : ℕ) → kept ≤ k → p < k → (d : ℕ) × (d < k) × Way k kept p d
unfolding Way
way_start k kept p l h =
    ⊎_elim (λ (a : p < kept). (k + p - kept, omega arith, inr (a, omega arith)))
    (λ (a : kept ≤ p). (p - kept, omega arith, inl (omega arith)))
    (lt_or_le p kept)

-- The steps of a report with one more line.
steps_more : (x : Entry) (xs : List Entry) (y : Step) (ys : List Step) → steps_in (x ∷ xs) ≡ y ∷ ys → (x.taken ≡ y) × (steps_in xs ≡ ys)
unfolding steps_in
steps_more x xs y ys h = (cc, cc)

steps_none : {A : Type 0} (y : Step) (ys : List Step) → steps_in [] ≡ y ∷ ys → A
unfolding steps_in
steps_none y ys h = let z : ◌≡◌ {A = ℕ} 0 1 = cc in absurd (omega arith)

module _ (M : Machine) where
  abbrev k : ℕ
  k = places M.carriers

  module _ (s : State) (kept p' p d : ℕ) (fits : kept ≤ k) (p'-open : open_at M s p' ≡ true) (p'-there : p' < k) (p-there : p < k)
      (other : p ≡ p' → ⊥) (way : Way k kept p' d) where
    -- Where p is first in going round, p' comes later.
    shorter_onward : kept ≤ p → ((n : ℕ) → kept ≤ n → n < p → open_at M s n ≡ false) → (d' : ℕ) × (d' < d) × Way k (suc p) p' d'
    unfolding Way
    shorter_onward l shut =
        ⊎_elim
        (λ (e : kept + d ≡ p').
        ⊎_elim (λ (h : p' < p). true_false_absurd p'-open (shut p' (omega arith) h))
        (λ (h : p ≤ p'). let ne : p < p' = omega arith in (p' - suc p, omega arith, inl (omega arith)))
        (lt_or_le p' p))
        (λ (e : (p' < kept) × (kept + d ≡ k + p')). (k + p' - suc p, omega arith, inr (omega arith, omega arith)))
        way

    shorter_around : p < kept → ((n : ℕ) → kept ≤ n → n < k → open_at M s n ≡ false) → ((n : ℕ) → 0 ≤ n → n < p → open_at M s n ≡ false) →
        (d' : ℕ) × (d' < d) × Way k (suc p) p' d'
    unfolding Way
    shorter_around l shut-end shut-top =
        ⊎_elim
        (λ (e : kept + d ≡ p'). true_false_absurd p'-open (shut-end p' (omega arith) p'-there))
        (λ (e : (p' < kept) × (kept + d ≡ k + p')).
        ⊎_elim (λ (h : p' < p). true_false_absurd p'-open (shut-top p' (omega arith) h))
        (λ (h : p ≤ p'). let ne : p < p' = omega arith in (p' - suc p, omega arith, inl (omega arith)))
        (lt_or_le p' p))
        way

    shorter : FirstRound M s kept p → (d' : ℕ) × (d' < d) × Way k (suc p) p' d'
    shorter (onward l shut) = shorter_onward l shut
    shorter (around l shut-end shut-top) = shorter_around l shut-end shut-top

  -- A stretch in which the step at place p' is passed over is no longer than the way to p'.
  module _ (p' : ℕ) (p'-there : p' < k) where
    abbrev x : Step
    x = step_at M.carriers p'

    stretch : (kept : ℕ) (s : State) (xs : List Entry) (ys zs : List Step) (d : ℕ) → kept ≤ k → FollowsOrder round M kept s xs →
        steps_in xs ≡ ys ++ zs →
        PassedOver M x s ys → Way k kept p' d → length ys ≤ d
    unfolding FollowsOrder PassedOver MayTake remembered open_at
    stretch kept s xs [] zs d l h e over way = omega arith
    stretch kept s [] (y ∷ ys) zs d l h e over way = steps_none y (ys ++ zs) e
    stretch kept s (x ∷ xs) (y ∷ ys) zs d l h e over way =
        let same = steps_more x xs y (ys ++ zs) e in
        let p = h.0 in
        let other : p ≡ p' → ⊥ = λ i. over.1 (sym same.0 ∙ h.1.step ∙ ap (step_at M.carriers) i) in
        let r = shorter s kept p' p d l over.0 p'-there h.1.listed other way h.1.rule in
        omega (
          arith,
          r.1,
          stretch (suc p) (after_step M s x.taken) xs ys zs r.0 h.1.listed h.2 same.1 (rw same.0 over.2) r.2,
        )

  -- A history by the rule, seen after its first steps.
  record From (s : State) (rest : List Step) : Type 0 where
    memory : ℕ
    entries : List Entry
    fits : memory ≤ k
    by_rule : FollowsOrder round M memory s entries
    steps : steps_in entries ≡ rest

  later : (kept : ℕ) (s : State) (ys : List Entry) (xs rest : List Step) → kept ≤ k → FollowsOrder round M kept s ys →
      steps_in ys ≡ xs ++ rest →
      From (after_steps M s xs) rest
  unfolding FollowsOrder after_steps remembered
  later kept s ys [] rest l h e = record { memory = kept; entries = ys; fits = l; by_rule = h; steps = e }
  later kept s [] (y ∷ xs) rest l h e = steps_none y (xs ++ rest) e
  later kept s (x ∷ ys) (y ∷ xs) rest l h e =
      let same = steps_more x ys y (xs ++ rest) e in
      rw (← same.0) (later (suc h.0) (after_step M s x.taken) ys xs rest h.1.listed h.2 same.1)

  pub round_fair : (kept : ℕ) (s : State) (entries : List Entry) (x : Step) (xs ys zs : List Step) → 1 ≤ M.carriers → kept ≤ k →
      FollowsOrder round M kept s entries →
      steps_in entries ≡ xs ++ (ys ++ zs) → PassedOver M x (after_steps M s xs) ys → length ys < k
  unfolding PassedOver
  round_fair kept s entries x xs [] zs n l h e over = omega (arith, places_split M.carriers)
  round_fair kept s entries x xs (y ∷ ys) zs n l h e over =
      let f = later kept s entries xs (y ∷ (ys ++ zs)) l h e in
      let p = open_place M (after_steps M s xs) x over.0 in
      let w = way_start k f.memory p.0 f.fits p.1 in
      omega (
        arith,
        w.1,
        stretch p.0 p.1 f.memory (after_steps M s xs) f.entries (y ∷ ys) zs w.0 f.fits f.by_rule f.steps
            (subst (λ (z : Step). PassedOver M z (after_steps M s xs) (y ∷ ys)) (sym p.2) over) w.2,
      )
