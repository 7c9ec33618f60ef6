-- The order of the complete runs: a step has one place, no run is earlier than itself, and each listed run is earlier than those behind it.
use Prim.Native.Nat.{ℕ, zero, suc, ◌+◌, ◌-◌, ◌≤◌, ◌<◌}
use native.Mathlib.Omega.{arith}
use mathlib.Core.Bool.{Bool, true, false}
use mathlib.Core.List.{List, [], ◌∷◌}
use mathlib.Core.Logic.{◌⊎◌, inl, inr, ⊎_elim}
use mathlib.Core.Path.{◌≡◌, refl, sym, ◌∙◌, ap}
use lib.ListN.{drop, drop_of_length-le}
use lib.Seq.{drop-cons}
use Rattle.laws.proofs.Tests.{lt_or_le}
use Rattle.reference.specs.State.{Machine, State}
use Rattle.reference.specs.Step.{Step, plan, deliver, is_open}
use Rattle.reference.specs.Ranking.{deliveries_from, ranking}
use Rattle.orders.specs.Orders.{places, step_at}
use Rattle.orders.proofs.PlaceLaws.{deliveries_before, joined_place, from_length, places_split, plan_at, deliver_at}
use Rattle.listing.specs.Runs.{Run, each_behind, beginning, runs_from}
use Rattle.listing.specs.Order.{RanksBefore, EarlierRun}
use Rattle.listing.proofs.ListLaws.{AllItems, all_append, all_every, all_more, all_map, Sorted, sorted_append, sorted_map}
use Rattle.listing.proofs.RunLaws.{begin_open, begin_shut, runs_induction}

-- A step by three numbers: its kind, its carrier or sender, its receiver.
kind : Step → ℕ
kind (plan i) = 0
kind (deliver j i) = 1

one : Step → ℕ
one (plan i) = i
one (deliver j i) = j

other : Step → ℕ
other (plan i) = 0
other (deliver j i) = i

module _ (n : ℕ) where
  -- The numbers of the step at a place tell the place.
  abbrev PlaceTold : ℕ → Type 0
  PlaceTold p = ((kind (step_at n p) ≡ 0) × (p ≡ one (step_at n p))) ⊎
      ((kind (step_at n p) ≡ 1) × (p + suc (one (step_at n p)) ≡ n + deliveries_before n (one (step_at n p)) + other (step_at n p)))

  numbered : (p : ℕ) → p < places n →
      PlaceTold p
  unfolding kind one other
  numbered p l = ⊎_elim plans deliveries (lt_or_le p n)
    where
      plans : p < n → PlaceTold p
      plans h = inl (ap kind (plan_at n p h), ap one (sym (plan_at n p h)))

      deliveries : n ≤ p → PlaceTold p
      deliveries h =
          let r = joined_place n (deliveries_from n) (p - n) (omega (arith, places_split n)) in
          let short : r.1 < n - suc r.0 = omega (arith, r.3, from_length n r.0) in
          let here : p ≡ n + deliveries_before n r.0 + r.1 = omega (arith, r.4) in
          let is : step_at n p ≡ deliver r.0 (suc r.0 + r.1) =
          ap (step_at n) here ∙ (deliver_at n r.0 r.1 r.2 short).1
          in
          inr (ap kind is, rw (ap one is, ap other is) (omega (arith, here)))

  pub one_place : (p p' : ℕ) → p < places n → p' < places n → step_at n p ≡ step_at n p' → p ≡ p'
  one_place p p' l h e = go (numbered p l) (numbered p' h)
    where
      go : PlaceTold p →
          PlaceTold p' → p ≡ p'
      go (inl a) (inl b) = a.1 ∙ ap one e ∙ sym b.1
      go (inl a) (inr b) = absurd (omega (arith, a.0, b.0, ap kind e))
      go (inr a) (inl b) = absurd (omega (arith, a.0, b.0, ap kind e))
      go (inr a) (inr b) = omega (arith, a.1, b.1, ap one e, ap other e, ap (λ (x : Step). deliveries_before n (one x)) e)

  before_apart : (x y : Step) → RanksBefore n x y → x ≡ y → ⊥
  before_apart x y b e =
      omega (
        arith,
        b.before,
        one_place b.first b.second (omega (arith, b.before, b.listed)) b.listed (b.first_is ∙ e ∙ sym b.second_is),
      )

  before_one_way : (x y : Step) → RanksBefore n x y → RanksBefore n y x → ⊥
  before_one_way x y b c =
      omega (
        arith,
        b.before,
        c.before,
        one_place b.first c.second (omega (arith, b.before, b.listed)) c.listed (b.first_is ∙ sym c.second_is),
        one_place b.second c.first b.listed (omega (arith, c.before, c.listed)) (b.second_is ∙ sym c.first_is),
      )

  -- Of two runs one is not both earlier and later.
  pub earlier_one_way : (xs ys : Run) → EarlierRun n xs ys → EarlierRun n ys xs → ⊥
  unfolding EarlierRun
  earlier_one_way [] ys h g = h
  earlier_one_way (x ∷ xs) [] h g = h
  earlier_one_way (x ∷ xs) (y ∷ ys) (inl b) (inl c) = before_one_way x y b c
  earlier_one_way (x ∷ xs) (y ∷ ys) (inl b) (inr c) = before_apart x y b (sym c.0)
  earlier_one_way (x ∷ xs) (y ∷ ys) (inr b) (inl c) = before_apart y x c (sym b.0)
  earlier_one_way (x ∷ xs) (y ∷ ys) (inr b) (inr c) = earlier_one_way xs ys b.1 c.1

  -- A run begins with a step at place p or behind it.
  unfoldable StartsFrom : ℕ → Run → Type 0
  StartsFrom p [] = ⊥
  StartsFrom p (y ∷ ys) = (p' : ℕ) × (p ≤ p') × (p' < places n) × (step_at n p' ≡ y)

  starts_later : (p : ℕ) (xs : Run) → StartsFrom (suc p) xs → StartsFrom p xs
  unfolding StartsFrom
  starts_later p [] h = h
  starts_later p (y ∷ ys) h = (h.0, omega (arith, h.1), h.2, h.3)

  starts_there : (p : ℕ) → p < places n → (xs : Run) → StartsFrom p (step_at n p ∷ xs)
  unfolding StartsFrom
  starts_there p l xs = (p, omega arith, l, refl)

  -- A run that begins at place p is earlier than one that begins behind it.
  starts_earlier : (p : ℕ) (xs : Run) (zs : Run) → StartsFrom (suc p) zs → EarlierRun n (step_at n p ∷ xs) zs
  unfolding StartsFrom EarlierRun
  starts_earlier p xs [] h = h
  starts_earlier p xs (y ∷ ys) h =
      inl (record { first = p; second = h.0; before = omega (arith, h.1); listed = h.2; first_is = refl; second_is = h.3 })

  module _ (x : Step) where
    front_sorted : (ys : List Run) → Sorted (EarlierRun n) ys → Sorted (EarlierRun n) (each_behind x ys)
    unfolding each_behind EarlierRun
    front_sorted ys h = sorted_map (EarlierRun n) (λ (xs : Run). x ∷ xs) (λ _ _ g. inr (refl, g)) ys h

    front_all : (P : Run → Type 0) → ((xs : Run) → P (x ∷ xs)) → (ys : List Run) → AllItems P (each_behind x ys)
    unfolding each_behind
    front_all P h ys = all_map (λ (xs : Run). x ∷ xs) P ys (all_every (λ xs. P (x ∷ xs)) h ys)

module _ (M : Machine) where
  abbrev n : ℕ
  n = M.carriers

  nothing : (s : State) (onward : Step → List Run) (p : ℕ) →
      Sorted (EarlierRun n) (beginning (is_open M s) onward []) × AllItems (StartsFrom n p) (beginning (is_open M s) onward [])
  unfolding beginning Sorted AllItems
  nothing s onward p = (tt, tt)

  -- The runs that begin at place p or behind it are ordered, and begin so.
  begin_sorted : (s : State) (onward : Step → List Run) → ((x : Step) → Sorted (EarlierRun n) (onward x)) →
      (k p : ℕ) → p + k ≡ places n →
      Sorted (EarlierRun n) (beginning (is_open M s) onward (drop p (ranking n))) ×
      AllItems (StartsFrom n p) (beginning (is_open M s) onward (drop p (ranking n)))
  unfolding places step_at
  begin_sorted s onward h zero p e = rw (drop_of_length-le (ranking n) {i = p} (omega arith)) (nothing s onward p)
  begin_sorted s onward h (suc k) p e =
      rw (drop-cons (ranking n) p (plan 0) (omega arith))
      (go (is_open M s (step_at n p)) refl (begin_sorted s onward h k (suc p) (omega arith)))
    where
      x : Step
      x = step_at n p

      rest : List Run
      rest = beginning (is_open M s) onward (drop (suc p) (ranking n))

      go : (y : Bool) → is_open M s x ≡ y → Sorted (EarlierRun n) rest × AllItems (StartsFrom n (suc p)) rest →
          Sorted (EarlierRun n) (beginning (is_open M s) onward (x ∷ drop (suc p) (ranking n))) ×
          AllItems (StartsFrom n p) (beginning (is_open M s) onward (x ∷ drop (suc p) (ranking n)))
      go true o g =
          rw (begin_open (is_open M s) onward x (drop (suc p) (ranking n)) o) (
            sorted_append (EarlierRun n) (each_behind x (onward x)) rest (front_sorted n x (onward x) (h x)) g.0
                (front_all n x (λ ys. AllItems (EarlierRun n ys) rest)
                (λ xs. all_more (StartsFrom n (suc p)) (EarlierRun n (x ∷ xs)) (starts_earlier n p xs) rest g.1) (onward x)),
            all_append (StartsFrom n p) (each_behind x (onward x)) rest
                (front_all n x (StartsFrom n p) (λ xs. starts_there n p (omega arith) xs) (onward x))
                (all_more (StartsFrom n (suc p)) (StartsFrom n p) (starts_later n p) rest g.1),
          )
      go false o g =
          rw (begin_shut (is_open M s) onward x (drop (suc p) (ranking n)) o)
          (g.0, all_more (StartsFrom n (suc p)) (StartsFrom n p) (starts_later n p) rest g.1)

  -- Each listed run is earlier than those behind it.
  pub runs_sorted : (left : ℕ) (s : State) → Sorted (EarlierRun n) (runs_from M left s)
  unfolding Sorted AllItems
  runs_sorted =
      runs_induction M (λ left s ys. Sorted (EarlierRun n) ys) (λ left s e. (tt, tt)) (λ s e. tt)
      (λ left s onward e h. (begin_sorted s onward h (places n) 0 (omega arith)).0)
