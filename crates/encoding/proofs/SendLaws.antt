-- A record sent in memory, channel by channel, is the answer sent.
use Prim.Native.Nat.{ℕ, zero, suc, ◌≤◌, ◌<◌}
use native.Mathlib.Omega.{arith}
use mathlib.Core.Bool.{cond}
use mathlib.Core.List.{List, [], ◌∷◌, ◌++◌}
use mathlib.Core.Logic.{⊎_elim}
use mathlib.Core.Path.{◌≡◌, refl, sym, ◌∙◌, ap}
use lib.Dec.{ltb}
use lib.ListN.{length}
use borrow.Author.Tests.{lt-ltb, le-ltb, eq-eqb, ne_eqb}
use Rattle.route.specs.Route.{Answer}
use Rattle.laws.proofs.Tests.{eq_or_ne, lt_or_le}
use Rattle.records.specs.Records.{record_of, slot}
use Rattle.reference.specs.State.{State}
use Rattle.reference.specs.Take.{send}
use Rattle.encoding.specs.Encode.{channel_block, carrier_block, count_block, blocks, pairs, encode}
use Rattle.encoding.specs.InnerSteps.{pushed_below, sent_to}
use Rattle.encoding.proofs.SplitLaws.{blocks_same}
use Rattle.encoding.proofs.StateLaws.{with_chans, channel_window}
use Rattle.encoding.proofs.ChannelLaws.{pushed_is}

-- The channels once an answer is sent to those of the first k carriers that are below i.
unfoldable sent_below : (ℕ → ℕ → List Answer) → ℕ → Answer → ℕ → ℕ → ℕ → List Answer
sent_below chan i x k k' j = cond (ltb k' k) (send chan i x k' j) (chan k' j)

module _ (chan : ℕ → ℕ → List Answer) (i : ℕ) (z : Answer) where
  -- Only a channel from i to a carrier below it changes.
  send_same : (n j : ℕ) → (j ≡ i → i < n → ⊥) → send chan i z n j ≡ chan n j
  unfolding send
  send_same n j h =
      ⊎_elim
      (λ (e : j ≡ i). rw (eq-eqb j i e, le-ltb i n (not_lt (h e)), send))
      (λ (e : j ≡ i → ⊥). rw (ne_eqb j i e, send))
      (eq_or_ne j i)
    where
      not_lt : {x y : ℕ} → (x < y → ⊥) → y ≤ x
      not_lt {x = x} {y = y} f = ⊎_elim (λ (l : x < y). absurd (f l)) (λ (l : y ≤ x). l) (lt_or_le x y)

  send_more : (n : ℕ) → i < n → send chan i z n i ≡ chan n i ++ (z ∷ [])
  unfolding send
  send_more n l = rw (eq-eqb i i refl, lt-ltb i n l, send)

  before_it : (k n j : ℕ) → k ≤ n → sent_below chan i z k n j ≡ chan n j
  unfolding sent_below
  before_it k n j l = rw (le-ltb n k l)

  after_it : (k n j : ℕ) → n < k → sent_below chan i z k n j ≡ send chan i z n j
  unfolding sent_below
  after_it k n j l = rw (lt-ltb n k l)

  -- From k to k + 1 only the channel from i to k changes, and only where k is below i.
  next_same : (k n j : ℕ) → (n ≡ k → j ≡ i → i < k → ⊥) → sent_below chan i z k n j ≡ sent_below chan i z (suc k) n j
  next_same k n j h =
      ⊎_elim
      (λ (l : n < k). after_it k n j l ∙ sym (after_it (suc k) n j (omega arith)))
      (λ (l : k ≤ n).
      ⊎_elim
      (λ (e : n ≡ k).
      before_it k n j l ∙ sym (send_same n j (λ u v. h e u (rw e at v))) ∙ sym (after_it (suc k) n j (omega arith)))
      (λ (e : n ≡ k → ⊥). before_it k n j l ∙ sym (before_it (suc k) n j (omega arith)))
      (eq_or_ne n k))
      (lt_or_le n k)

-- The encoding depends on the channels of pairs only.
channels_same : (n : ℕ) (s : State) (channels channels' : ℕ → ℕ → List Answer) →
    ((k j' : ℕ) → j' < k → k < n → channels k j' ≡ channels' k j') →
    encode n (with_chans s channels) ≡ encode n (with_chans s channels')
unfolding encode with_chans carrier_block pairs
channels_same n s channels channels' e =
    let same : blocks n (λ i. blocks i (λ j. channel_block (channels i j))) ≡ blocks n (λ i. blocks i (λ j. channel_block (channels' i j))) =
    blocks_same n (λ i. blocks i (λ j. channel_block (channels i j))) (λ i. blocks i (λ j. channel_block (channels' i j)))
    (λ k a. blocks_same k (λ j. channel_block (channels k j)) (λ j. channel_block (channels' k j)) (λ j' b. ap channel_block (e k j' b a)))
    in
    ap
    (λ (xs : List ℕ). count_block s.taken ++ (blocks n (carrier_block s) ++ (pairs n (λ i j. slot (s.view i j)) ++ xs)))
    same

module _ (n : ℕ) (s : State) (rest : List ℕ) (i : ℕ) (said : Answer) (whole : length (record_of said) ≡ 65)
    (capacity : (k : ℕ) → i < k → k < n → length (s.chan k i) < 4) where
  -- The memory once the answer is sent to the first k carriers.
  abbrev sent_at : ℕ → List ℕ
  sent_at k = encode n (with_chans s (sent_below s.chan i said k)) ++ rest

  -- One more carrier: its channel gets the answer if it is below i.
  pushed_same : (k : ℕ) → k < n → pushed_below n i (record_of said) (sent_at k) k ≡ sent_at (suc k)
  unfolding pushed_below with_chans
  pushed_same k l =
      ⊎_elim
      (λ (h : i < k).
      let z = with_chans s (sent_below s.chan i said k) in
      let old : sent_below s.chan i said k k i ≡ s.chan k i = before_it s.chan i said k k i (omega arith) in
      let new : sent_below s.chan i said (suc k) k i ≡ s.chan k i ++ (said ∷ []) =
      after_it s.chan i said (suc k) k i (omega arith) ∙ send_more s.chan i said k h
      in
      rw (lt-ltb i k h)
      (pushed_is (s.chan k i) said (capacity k h l) whole
      (rw (old, new) at
      (channel_window n z rest (sent_below s.chan i said (suc k)) k i h l
      (λ k' j u v w. next_same s.chan i said k k' j (λ x y q. w x y))))))
      (λ (h : k ≤ i).
      rw (le-ltb i k h)
      (ap (λ (xs : List ℕ). xs ++ rest)
      (channels_same n s (sent_below s.chan i said k) (sent_below s.chan i said (suc k))
      (λ k' j u v. next_same s.chan i said k k' j (λ x y q. omega arith)))))
      (lt_or_le i k)

  sent_first : (k : ℕ) → k ≤ n → sent_to n i (record_of said) (encode n s ++ rest) k ≡ sent_at k
  unfolding sent_to with_chans
  sent_first zero l =
      ap (λ (xs : List ℕ). xs ++ rest)
      (channels_same n s s.chan (sent_below s.chan i said 0) (λ k j u v. sym (before_it s.chan i said 0 k j (omega arith))))
  sent_first (suc k) l = rw (sent_first k (omega arith)) (pushed_same k (omega arith))

  -- The answer sent to all carriers below.
  pub sent_same : sent_to n i (record_of said) (encode n s ++ rest) n ≡ encode n (with_chans s (send s.chan i said)) ++ rest
  sent_same =
      sent_first n (omega arith)
      ∙ ap (λ (xs : List ℕ). xs ++ rest)
      (channels_same n s (sent_below s.chan i said n) (send s.chan i said) (λ k j u v. after_it s.chan i said n k j v))
