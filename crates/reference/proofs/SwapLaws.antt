-- Changes in either order: pointwise updates, messages sent by different carriers, and a message that is sent where one is taken.
use Prim.Native.Nat.{ℕ}
use mathlib.Core.Bool.{Bool, true, false, ◌&&◌}
use mathlib.Core.List.{List, [], ◌∷◌, ◌++◌}
use mathlib.Core.Logic.{◌⊎◌, inl, inr}
use mathlib.Core.Path.{◌≡◌, refl, sym, ◌∙◌, ap, fun_ext}
use lib.Dec.{eqb, ltb}
use borrow.Author.Tests.{eqb-true}
use Rattle.route.specs.Route.{Answer, View}
use Rattle.laws.proofs.Tests.{eq_or_ne}
use Rattle.reference.specs.Ranges.{update, update_pair}
use Rattle.reference.specs.Take.{send, oldest, newer}
use Rattle.reference.proofs.RangeLaws.{pair_row, pair_same, pair_other, pair_other_row}

module _ {A : Type 0} where
  -- Updates at different places, and an update at the same place again.
  pub update_swap : (φ : ℕ → A) (i k : ℕ) (y z : A) → (i ≡ k → ⊥) → update (update φ i y) k z ≡ update (update φ k z) i y
  unfolding update
  update_swap φ i k y z n = fun_ext (λ at. go at (eqb at i) (eqb at k) refl refl)
    where
      go : (at : ℕ) (x₁ x₂ : Bool) → eqb at i ≡ x₁ → eqb at k ≡ x₂ → update (update φ i y) k z at ≡ update (update φ k z) i y at
      go at true true p q = absurd (n (sym (eqb-true at i p) ∙ eqb-true at k q))
      go at true false p q = rw (p, q, update) (rw (p, update))
      go at false true p q = rw (p, q, update)
      go at false false p q = rw (p, q, update) (rw (p, update))

  -- The same value at any two places.
  pub value_swap : (φ : ℕ → A) (i k : ℕ) (x : A) → update (update φ i x) k x ≡ update (update φ k x) i x
  value_swap φ i k x = go (eq_or_ne i k)
    where
      go : (i ≡ k) ⊎ (i ≡ k → ⊥) → update (update φ i x) k x ≡ update (update φ k x) i x
      go (inl e) = rw e
      go (inr n) = update_swap φ i k x x n

  update_twice : (φ : ℕ → A) (i : ℕ) (y z : A) → update (update φ i y) i z ≡ update φ i z
  unfolding update
  update_twice φ i y z = fun_ext (λ at. go at (eqb at i) refl)
    where
      go : (at : ℕ) (x₁ : Bool) → eqb at i ≡ x₁ → update (update φ i y) i z at ≡ update φ i z at
      go at true p = rw (p, update)
      go at false p = rw (p, update) (rw (p, update))

module _ {A : Type 0} where
  -- Updates at two places of one row, and of different rows.
  row_twice : (φ : ℕ → ℕ → A) (i j j' : ℕ) (x y : A) → update_pair (update_pair φ i j x) i j' y ≡ update φ i (update (update (φ i) j x) j' y)
  unfolding update_pair
  row_twice φ i j j' x y =
      ap (λ (row : ℕ → A). update (update_pair φ i j x) i (update row j' y)) (pair_row φ i j x) ∙ update_twice φ i (update (φ i) j x) _

  rows_swap : (φ : ℕ → ℕ → A) (i j k j' : ℕ) (x y : A) → (i ≡ k → ⊥)
      → update_pair (update_pair φ i j x) k j' y ≡ update_pair (update_pair φ k j' y) i j x
  unfolding update_pair
  rows_swap φ i j k j' x y d = rw (pair_other_row φ i j x k (λ q. d (sym q)), pair_other_row φ k j' y i d, update_swap φ i k _ _ d)

  -- An update at another pair, and updates at different pairs.
  pub pair_else : (φ : ℕ → ℕ → A) (i j : ℕ) (x : A) (k j' : ℕ) → ((i ≡ k) × (j ≡ j') → ⊥) → update_pair φ i j x k j' ≡ φ k j'
  pair_else φ i j x k j' n = go (eq_or_ne k i)
    where
      go : (k ≡ i) ⊎ (k ≡ i → ⊥) → update_pair φ i j x k j' ≡ φ k j'
      go (inl e) = rw e (pair_other φ i j x j' (λ q. n (sym e, sym q)))
      go (inr d) = ap (λ (row : ℕ → A). row j') (pair_other_row φ i j x k d)

  pub pair_swap : (φ : ℕ → ℕ → A) (i j k j' : ℕ) (x y : A) → ((i ≡ k) × (j ≡ j') → ⊥)
      → update_pair (update_pair φ i j x) k j' y ≡ update_pair (update_pair φ k j' y) i j x
  pair_swap φ i j k j' x y n = go (eq_or_ne i k)
    where
      go : (i ≡ k) ⊎ (i ≡ k → ⊥) → update_pair (update_pair φ i j x) k j' y ≡ update_pair (update_pair φ k j' y) i j x
      go (inl e) = rw (← e, row_twice φ i j j' x y, row_twice φ i j' j y x, update_swap (φ i) j j' x y (λ q. n (e, q)))
      go (inr d) = rows_swap φ i j k j' x y d

-- A plan's messages: sent where the answer is news.
abbrev pub sent_if : Bool → (ℕ → ℕ → List Answer) → ℕ → Answer → ℕ → ℕ → List Answer
sent_if news channels i x = elim news [ true ↦ send channels i x | false ↦ channels ]

-- Messages leave the channels of other senders alone, and go on every channel whatever stands on the others.
send_other : (channels : ℕ → ℕ → List Answer) (i : ℕ) (y : Answer) (k j : ℕ) → eqb j i ≡ false → send channels i y k j ≡ channels k j
unfolding send
send_other channels i y k j e = rw (e, send)

send_same : (channels channels' : ℕ → ℕ → List Answer) (i : ℕ) (y : Answer) (k j : ℕ) → channels k j ≡ channels' k j →
    send channels i y k j ≡ send channels' i y k j
unfolding send
send_same channels channels' i y k j e = ap (λ (xs : List Answer). elim (eqb j i && ltb i k) [ true ↦ xs ++ (y ∷ []) | false ↦ xs ]) e

-- Messages of different senders.
send_swap : (channels : ℕ → ℕ → List Answer) (i k : ℕ) (y z : Answer) → (i ≡ k → ⊥) →
    send (send channels i y) k z ≡ send (send channels k z) i y
send_swap channels i k y z n = fun_ext (λ k'. fun_ext (λ j. go k' j (eqb j i) (eqb j k) refl refl))
  where
    go : (k' j : ℕ) (x₁ x₂ : Bool) → eqb j i ≡ x₁ → eqb j k ≡ x₂ → send (send channels i y) k z k' j ≡ send (send channels k z) i y k' j
    go k' j true true p q = absurd (n (sym (eqb-true j i p) ∙ eqb-true j k q))
    go k' j true false p q =
        send_other (send channels i y) k z k' j q ∙ send_same channels (send channels k z) i y k' j (sym (send_other channels k z k' j q))
    go k' j false x₂ p q =
        send_same (send channels i y) channels k z k' j (send_other channels i y k' j p) ∙ sym (send_other (send channels k z) i y k' j p)

pub sent_swap : (channels : ℕ → ℕ → List Answer) (i k : ℕ) (x y : Answer) (z z' : Bool) → (i ≡ k → ⊥)
    → sent_if z' (sent_if z channels i x) k y ≡ sent_if z (sent_if z' channels k y) i x
sent_swap channels i k x y true true n = send_swap channels i k x y n
sent_swap channels i k x y true false n = refl
sent_swap channels i k x y false true n = refl
sent_swap channels i k x y false false n = refl

-- On a channel that is not empty a message may be sent before or after the oldest is taken, which is the same one.
newer_sent : (xs : List Answer) (x : Answer) → (xs ≡ [] → ⊥) → newer (xs ++ (x ∷ [])) ≡ newer xs ++ (x ∷ [])
unfolding newer
newer_sent [] x n = absurd (n refl)
newer_sent (y ∷ xs) x n = refl

oldest_sent : (v : View) (xs : List Answer) (x : Answer) → (xs ≡ [] → ⊥) → oldest v (xs ++ (x ∷ [])) ≡ oldest v xs
unfolding oldest
oldest_sent v [] x n = absurd (n refl)
oldest_sent v (y ∷ xs) x n = refl

-- A channel with the new message, and one without.
send_there : (channels : ℕ → ℕ → List Answer) (i : ℕ) (x : Answer) (k j : ℕ) → (eqb j i && ltb i k) ≡ true →
    send channels i x k j ≡ channels k j ++ (x ∷ [])
unfolding send
send_there channels i x k j e = rw (e, send)

send_not : (channels : ℕ → ℕ → List Answer) (i : ℕ) (x : Answer) (k j : ℕ) → (eqb j i && ltb i k) ≡ false →
    send channels i x k j ≡ channels k j
unfolding send
send_not channels i x k j e = rw (e, send)

newer_kept : (channels : ℕ → ℕ → List Answer) (i : ℕ) (x : Answer) (k j : ℕ) → (channels k j ≡ [] → ⊥)
    → newer (send channels i x k j) ≡ send (update_pair channels k j (newer (channels k j))) i x k j
unfolding send
newer_kept channels i x k j n = go (eqb j i && ltb i k) refl
  where
    go : (y : Bool) → (eqb j i && ltb i k) ≡ y →
        newer (send channels i x k j) ≡ send (update_pair channels k j (newer (channels k j))) i x k j
    go true e = rw (e, pair_same channels k j (newer (channels k j)), send) (newer_sent (channels k j) x n)
    go false e = rw (e, pair_same channels k j (newer (channels k j)), send)

-- A message is sent and another taken, in either order, from a channel that is not empty.
send_take : (channels : ℕ → ℕ → List Answer) (i : ℕ) (y : Answer) (k j : ℕ) → (channels k j ≡ [] → ⊥)
    → update_pair (send channels i y) k j (newer (send channels i y k j)) ≡ send (update_pair channels k j (newer (channels k j))) i y
send_take channels i y k j n = fun_ext (λ k'. fun_ext (λ j'. go k' j' (eq_or_ne k' k) (eq_or_ne j' j)))
  where
    before : ℕ → ℕ → List Answer
    before = update_pair (send channels i y) k j (newer (send channels i y k j))

    after : ℕ → ℕ → List Answer
    after = update_pair channels k j (newer (channels k j))

    go : (k' j' : ℕ) → (k' ≡ k) ⊎ (k' ≡ k → ⊥) → (j' ≡ j) ⊎ (j' ≡ j → ⊥) → before k' j' ≡ send after i y k' j'
    go k' j' (inr d) e = ap (λ (row : ℕ → List Answer). row j') (pair_other_row (send channels i y) k j _ k' d)
        ∙ send_same channels after i y k' j' (sym (ap (λ (row : ℕ → List Answer). row j') (pair_other_row channels k j _ k' d)))
    go k' j' (inl p) (inr d) =
        rw p (pair_other (send channels i y) k j _ j' d ∙ send_same channels after i y k j' (sym (pair_other channels k j _ j' d)))
    go k' j' (inl p) (inl q) = rw (p, q) (pair_same (send channels i y) k j _ ∙ newer_kept channels i y k j n)

pub sent_take : (x : Bool) (channels : ℕ → ℕ → List Answer) (i : ℕ) (y : Answer) (k j : ℕ) → (channels k j ≡ [] → ⊥)
    → update_pair (sent_if x channels i y) k j (newer (sent_if x channels i y k j))
    ≡ sent_if x (update_pair channels k j (newer (channels k j))) i y
sent_take true channels i y k j n = send_take channels i y k j n
sent_take false channels i y k j n = refl

-- The oldest message is the same one after another is sent, and some message is there.
pub oldest_kept : (x : Bool) (v : View) (channels : ℕ → ℕ → List Answer) (i : ℕ) (y : Answer) (k j : ℕ) → (channels k j ≡ [] → ⊥)
    → oldest v (sent_if x channels i y k j) ≡ oldest v (channels k j)
oldest_kept false v channels i y k j n = refl
oldest_kept true v channels i y k j n = go (eqb j i && ltb i k) refl
  where
    go : (x : Bool) → (eqb j i && ltb i k) ≡ x → oldest v (send channels i y k j) ≡ oldest v (channels k j)
    go true e = ap (oldest v) (send_there channels i y k j e) ∙ oldest_sent v (channels k j) y n
    go false e = ap (oldest v) (send_not channels i y k j e)
