-- The places of the ranking: how many there are, which step is where, and that every step that is there has a place.
use Prim.Native.Nat.{ℕ, zero, suc, ◌+◌, ◌*◌, ◌-◌, ◌/◌, ◌≤◌, ◌<◌}
use native.Mathlib.Omega.{arith}
use native.Mathlib.Nat.{eq-or-lt_of_le, div-eq_of_eq-mul_right}
use mathlib.Core.Bool.{true}
use mathlib.Core.List.{List, [], ◌∷◌}
use mathlib.Core.Logic.{⊎_elim, ◌↔◌}
use mathlib.Core.Path.{◌≡◌, refl, sym, ◌∙◌, ap}
use lib.Dec.{ltb}
use lib.ListN.{length, get_or, length-append, get_or-append}
use lib.Seq.{get_or-append-add, get_or_at}
use borrow.Author.Tests.{ltb-true, lt-ltb}
use Rattle.laws.proofs.Tests.{lt_or_le, and_both, and_fst, and_snd}
use Rattle.reference.specs.Ranges.{below, joined}
use Rattle.reference.specs.State.{Machine}
use Rattle.reference.specs.Step.{Step, plan, deliver, is_there}
use Rattle.reference.specs.Ranking.{deliveries_from, ranking}
use Rattle.orders.specs.Orders.{places, step_at}

module _ {A : Type 0} where
  pub below_length : (k : ℕ) (φ : ℕ → A) → length (below k φ) ≡ k
  unfolding below
  below_length zero φ = refl
  below_length (suc k) φ = rw (length-append, below_length k φ) (omega arith)

  pub below_at : (k : ℕ) (φ : ℕ → A) (x : A) (i : ℕ) → i < k → get_or (below k φ) i x ≡ φ i
  unfolding below
  below_at zero φ x i l = absurd (omega arith)
  below_at (suc k) φ x i l =
      ⊎_elim (λ (e : i ≡ k). rw e (get_or_at (below k φ) (φ k) [] x k (below_length k φ)))
      (λ (h : i < k). get_or-append (below k φ) (φ k ∷ []) x i (omega (arith, below_length k φ)) ∙ below_at k φ x i h)
      (eq-or-lt_of_le (omega arith))

  -- Item d of list j stands behind the lists before it.
  pub joined_at : (k : ℕ) (φ : ℕ → List A) (x : A) (j d : ℕ) → j < k → d < length (φ j) →
      (length (joined j φ) + d < length (joined k φ)) × (get_or (joined k φ) (length (joined j φ) + d) x ≡ get_or (φ j) d x)
  unfolding joined
  joined_at zero φ x j d l h = absurd (omega arith)
  joined_at (suc k) φ x j d l h =
      ⊎_elim
      (λ (e : j ≡ k). rw e (omega (arith, length-append (joined k φ) (φ k), rw e at h), get_or-append-add (joined k φ) (φ k) d x))
      (λ (b : j < k).
      let r = joined_at k φ x j d b h in (
        omega (arith, length-append (joined k φ) (φ k), r.0),
        get_or-append (joined k φ) (φ k) x (length (joined j φ) + d) r.0 ∙ r.1,
      ))
      (eq-or-lt_of_le (omega arith))

  -- Every place of the joined lists is that of an item of one of them.
  pub joined_place : (k : ℕ) (φ : ℕ → List A) (p : ℕ) → p < length (joined k φ) →
      (j : ℕ) × (d : ℕ) × (j < k) × (d < length (φ j)) × (p ≡ length (joined j φ) + d)
  unfolding joined
  joined_place zero φ p l = absurd (omega arith)
  joined_place (suc k) φ p l =
      ⊎_elim
      (λ (h : p < length (joined k φ)).
      let r = joined_place k φ p h in (r.0, r.1, omega (arith, r.2), r.3, r.4))
      (λ (h : length (joined k φ) ≤ p).
      (k, p - length (joined k φ), omega arith, omega (arith, length-append (joined k φ) (φ k)), omega arith))
      (lt_or_le p (length (joined k φ)))

-- The deliveries of the senders before j, of n carriers.
abbrev pub deliveries_before : ℕ → ℕ → ℕ
deliveries_before n j = length (joined j (deliveries_from n))

module _ (n : ℕ) where
  pub from_length : (j : ℕ) → length (deliveries_from n j) ≡ n - suc j
  unfolding deliveries_from
  from_length j = below_length (n - suc j) (λ d. deliver j (suc j + d))

  pub before_none : deliveries_before n 0 ≡ 0
  unfolding joined
  before_none = refl

  pub before_more : (j : ℕ) → deliveries_before n (suc j) ≡ deliveries_before n j + (n - suc j)
  unfolding joined
  before_more j = length-append (joined j (deliveries_from n)) (deliveries_from n j) ∙ rw (from_length j)

  -- Twice the deliveries of the first k senders, and k (k + 1), are 2 k n.
  before_twice : (k : ℕ) → k ≤ n → 2 * deliveries_before n k + k * (k + 1) ≡ 2 * (k * n)
  before_twice zero l = rw before_none (omega arith)
  before_twice (suc k) l = omega (arith, before_more k, before_twice k (omega arith))

  pub places_split : places n ≡ n + deliveries_before n n
  unfolding places ranking
  places_split = length-append (below n plan) (joined n (deliveries_from n)) ∙ rw (below_length n plan)

  pub places_half : places n ≡ n * (n + 1) / 2
  places_half = sym (div-eq_of_eq-mul_right (omega arith) (omega (arith, places_split, before_twice n (omega arith))))

  pub plan_at : (i : ℕ) → i < n → step_at n i ≡ plan i
  unfolding step_at ranking
  plan_at i l =
      get_or-append (below n plan) (joined n (deliveries_from n)) (plan 0) i (omega (arith, below_length n plan))
      ∙ below_at n plan (plan 0) i l

  pub deliver_at : (j d : ℕ) → j < n → d < n - suc j →
      (n + deliveries_before n j + d < places n) × (step_at n (n + deliveries_before n j + d) ≡ deliver j (suc j + d))
  unfolding step_at ranking deliveries_from
  deliver_at j d l h =
      let r = joined_at n (deliveries_from n) (plan 0) j d l (omega (arith, from_length j)) in
      let here : n + deliveries_before n j + d ≡ length (below n plan) + (deliveries_before n j + d) = omega (arith, below_length n plan) in (
        omega (arith, places_split, r.0),
        ap (λ (p : ℕ). get_or (ranking n) p (plan 0)) here
            ∙ get_or-append-add (below n plan) (joined n (deliveries_from n)) (deliveries_before n j + d) (plan 0)
            ∙ r.1 ∙ below_at (n - suc j) (λ d. deliver j (suc j + d)) (plan 0) d h,
      )

-- A place of the ranking with its step.
abbrev pub RankedPlace : ℕ → Step → Type 0
RankedPlace n x = (p : ℕ) × (p < places n) × (step_at n p ≡ x)

module _ (M : Machine) where
  abbrev n : ℕ
  n = M.carriers

  pub there_place : (x : Step) → is_there M x ≡ true → RankedPlace n x
  unfolding is_there
  there_place (plan i) e =
      let l : i < n = ltb-true i n e in (i, omega (arith, places_split n), plan_at n i l)
  there_place (deliver j i) e =
      let a : j < i = ltb-true j i (and_fst (ltb j i) (ltb i n) e) in
      let b : i < n = ltb-true i n (and_snd (ltb j i) (ltb i n) e) in
      let here : suc j + (i - suc j) ≡ i = omega arith in
      let r = deliver_at n j (i - suc j) (omega arith) (omega arith) in
      (n + deliveries_before n j + (i - suc j), r.0, r.1 ∙ ap (deliver j) here)

  pub at_there : (p : ℕ) → p < places n → is_there M (step_at n p) ≡ true
  unfolding is_there
  at_there p l = ⊎_elim plans deliveries (lt_or_le p n)
    where
      plans : p < n → is_there M (step_at n p) ≡ true
      plans h = rw (plan_at n p h) (lt-ltb p n h)

      delivery : (j d : ℕ) → j < n → d < n - suc j → is_there M (deliver j (suc j + d)) ≡ true
      delivery j d a h = and_both (lt-ltb j (suc j + d) (omega arith)) (lt-ltb (suc j + d) n (omega arith))

      deliveries : n ≤ p → is_there M (step_at n p) ≡ true
      deliveries h =
          let r = joined_place n (deliveries_from n) (p - n) (omega (arith, places_split n)) in
          let short : r.1 < n - suc r.0 = omega (arith, r.3, from_length n r.0) in
          let here : p ≡ n + deliveries_before n r.0 + r.1 = omega (arith, r.4) in
          rw (here, (deliver_at n r.0 r.1 r.2 short).1) (delivery r.0 r.1 r.2 short)

  pub ranking_lists : (x : Step) → (is_there M x ≡ true) ↔ RankedPlace n x
  ranking_lists x = (there_place x, λ r. rw r.2 at (at_there r.0 r.1))
