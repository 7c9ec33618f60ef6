-- Laws of listed numbers: their length, their places, and how a loop that stores them one by one meets them.
use Prim.Native.Nat.{ℕ, zero, suc, ◌+◌, ◌-◌, ◌≤◌, ◌<◌}
use native.Mathlib.Omega.{arith}
use native.Mathlib.Numerals.{add-one}
use native.Mathlib.Decide.{dec_lt, ℕ_discrete}
use borrow.Author.Count.{below_more}
use borrow.Author.Rules.{rules}
use mathlib.Core.Path.{◌≡◌, refl, sym, ◌∙◌, ap}
use mathlib.Core.List.{List, [], ◌∷◌, ◌++◌, append_assoc}
use borrow.Author.Tests.{lt-ltb, le-ltb}
use lib.ListN.{length, get_or, set, drop, replicate, length-append, length-set, length-drop, length-replicate, get_or-replicate}
use lib.ListN.{get_or-append}
use borrow.Rule.Slice.PartMut.{put_mid}
use Rattle.std.proofs.lemmas.List.{places}
use lib.Seq.{length-take-le, ext_get_or, get_or-set_same, get_or-set_other, get_or_at, set_at, drop-cons}
use Rattle.sheet.specs.Values.{listed, up_to}

module _ (φ : ℕ → ℕ) where
  pub listed_length : (k : ℕ) → length (listed φ k) ≡ k
  unfolding listed
  listed_length zero = refl
  listed_length (suc k) = length-append (listed φ k) (φ k ∷ []) ∙ omega (arith, listed_length k)

  pub listed_at : (n k : ℕ) → k < n → get_or (listed φ n) k 0 ≡ φ k
  unfolding listed
  listed_at zero k l = absurd (omega arith)
  listed_at (suc n) k l =
      below_more (λ (i : ℕ). get_or (listed φ n ++ (φ n ∷ [])) i 0 ≡ φ i) n
      (λ i h. get_or-append (listed φ n) (φ n ∷ []) 0 i (rw (listed_length n) h) ∙ listed_at n i h)
      (get_or_at (listed φ n) (φ n) [] 0 n (listed_length n))
      k
      (omega arith)

  -- A loop that stores the numbers in front of a memory: before the first store.
  pub listed_start : (old : List ℕ) → old ≡ listed φ 0 ++ drop 0 old
  unfolding listed
  listed_start old = refl

  -- One more number stored behind those that are there.
  pub listed_store : (j x : ℕ) (old m : List ℕ) → j < length old → m ≡ listed φ j ++ drop j old → x ≡ φ j
      → set m j x ≡ listed φ (j + 1) ++ drop (j + 1) old
  unfolding listed
  listed_store j x old m l e f =
      rw (e, f, add-one, drop-cons old j 0, append_assoc)
      (set_at (listed φ j) (get_or old j 0) (drop (suc j) old) (φ j) j (listed_length j))

  -- After the last store.
  pub listed_end : (j k : ℕ) (old m : List ℕ) → j ≤ k → k ≤ j → m ≡ listed φ j ++ drop j old → m ≡ listed φ k ++ drop k old
  listed_end j k old m a b h =
      let e : j ≡ k = omega arith in
      rw e at h

-- Two lists of numbers are the same where their numbers are.
pub listed_same : (φ ψ : ℕ → ℕ) (n : ℕ) → ((k : ℕ) → k < n → φ k ≡ ψ k) → listed φ n ≡ listed ψ n
unfolding listed
listed_same φ ψ zero a = refl
listed_same φ ψ (suc n) a = rw (listed_same φ ψ n (λ k l. a k (omega arith)), a n (omega arith))

module _ (φ : ℕ → ℕ) where
  pub up_to_below : (n k : ℕ) → k < n → up_to n φ k ≡ φ k
  unfolding up_to
  up_to_below n k l = rw (lt-ltb k n l)

  pub up_to_past : (n k : ℕ) → n ≤ k → up_to n φ k ≡ 0
  unfolding up_to
  up_to_past n k l = rw (le-ltb k n l)

  pub up_to_at : (n p k : ℕ) → k < n → k < p → get_or (listed (up_to n φ) p) k 0 ≡ φ k
  up_to_at n p k a b = listed_at (up_to n φ) p k b ∙ up_to_below n k a

  -- Before the first number is stored all are 0.
  pub up_to_none : (k : ℕ) → replicate k 0 ≡ listed (up_to 0 φ) k
  up_to_none k =
      let e : length {A = ℕ} (replicate k 0) ≡ k = length-replicate {A = ℕ} k 0 in
      ext_get_or 0 (replicate k 0) (listed (up_to 0 φ) k) (e ∙ sym (listed_length (up_to 0 φ) k))
      (λ i l.
      let b : i < k = omega arith in
      get_or-replicate k i 0 0 b ∙ sym (listed_at (up_to 0 φ) k i b ∙ up_to_past 0 i (omega arith)))

  up_to_other : (n k : ℕ) → (k ≡ n → ⊥) → up_to n φ k ≡ up_to (n + 1) φ k
  up_to_other n k d = go (dec_lt k n)
    where
      go : Dec (k < n) → up_to n φ k ≡ up_to (n + 1) φ k
      go (yes l) = up_to_below n k l ∙ sym (up_to_below (n + 1) k (omega arith))
      go (no l) = up_to_past n k (omega arith) ∙ sym (up_to_past (n + 1) k (omega arith))

  -- One more number stored in its place.
  pub up_to_store : (i n : ℕ) → i < n → set (listed (up_to i φ) n) i (φ i) ≡ listed (up_to (i + 1) φ) n
  up_to_store i n l =
      ext_get_or 0 (set old i (φ i)) new (set_length ∙ sym (listed_length (up_to (i + 1) φ) n))
      (λ k h. at k (omega (arith, h, set_length)) (ℕ_discrete k i))
    where
      old : List ℕ
      old = listed (up_to i φ) n

      new : List ℕ
      new = listed (up_to (i + 1) φ) n

      set_length : length (set old i (φ i)) ≡ n
      set_length = length-set old i (φ i) ∙ listed_length (up_to i φ) n

      here : get_or (set old i (φ i)) i 0 ≡ get_or new i 0
      here =
          get_or-set_same old i (φ i) 0 (omega (arith, listed_length (up_to i φ) n))
          ∙ sym (listed_at (up_to (i + 1) φ) n i l ∙ up_to_below (i + 1) i (omega arith))

      at : (k : ℕ) → k < n → Dec (k ≡ i) → get_or (set old i (φ i)) k 0 ≡ get_or new k 0
      at k b (yes e) = rw e here
      at k b (no d) =
          get_or-set_other old i k (φ i) 0 d
          ∙ listed_at (up_to i φ) n k b
          ∙ up_to_other i k d
          ∙ sym (listed_at (up_to (i + 1) φ) n k b)

  -- A loop that stores the numbers of an array in their places: one more store, and after the last.
  pub up_to_step : (i x k : ℕ) (xs : List ℕ) → i < k → xs ≡ listed (up_to i φ) k → x ≡ φ i → set xs i x ≡ listed (up_to (i + 1) φ) k
  up_to_step i x k xs l e f = rw (e, f) (up_to_store i k l)

  -- A block of numbers stored in their places.
  pub up_to_block : (i b n : ℕ) (xs ys : List ℕ) → i + b ≤ n → xs ≡ listed (up_to i φ) n → ys ≡ listed (λ (j : ℕ). φ (i + j)) b
      → put_mid i (i + b - i) xs ys ≡ listed (up_to (i + b) φ) n
  up_to_block i b n xs ys l e f =
      let q : i + b - i ≡ b = omega arith in
      rw q (ext_get_or 0 (put_mid i b xs ys) (listed (up_to (i + b) φ) n) (whole ∙ sym (listed_length (up_to (i + b) φ) n))
      (λ k h. let m : k < n = omega (arith, whole, h) in at k m (dec_lt k i) (dec_lt k (i + b))))
    where
      long : length xs ≡ n
      long = rw e (listed_length (up_to i φ) n)

      wide : length ys ≡ b
      wide = rw f (listed_length (λ (j : ℕ). φ (i + j)) b)

      whole : length (put_mid i b xs ys) ≡ n
      whole = rw (length-append, length-append, length-take-le i xs (omega (arith, long)), length-drop, length-drop) (omega (arith, long, wide))

      old : (k : ℕ) → k < n → get_or xs k 0 ≡ up_to i φ k
      old k h = rw e (listed_at (up_to i φ) n k h)

      new : (k : ℕ) → i ≤ k → k < i + b → get_or ys (k - i) 0 ≡ φ k
      new k g h = let q : i + (k - i) ≡ k = omega arith in rw f (listed_at (λ (j : ℕ). φ (i + j)) b (k - i) (omega arith) ∙ ap φ q)

      at : (k : ℕ) → k < n → Dec (k < i) → Dec (k < i + b) → get_or (put_mid i b xs ys) k 0 ≡ get_or (listed (up_to (i + b) φ) n) k 0
      at k m (yes h) g = search (rules, places, long) ∙ old k m ∙ up_to_below i k h ∙ sym (listed_at (up_to (i + b) φ) n k m ∙ up_to_below (i + b) k (omega arith))
      at k m (no h) (yes g) = search (rules, places, long, wide) ∙ new k (omega arith) g ∙ sym (listed_at (up_to (i + b) φ) n k m ∙ up_to_below (i + b) k g)
      at k m (no h) (no g) = search (rules, places, long, wide) ∙ old k m ∙ up_to_past i k (omega arith) ∙ sym (listed_at (up_to (i + b) φ) n k m ∙ up_to_past (i + b) k (omega arith))

  pub up_to_end : (i n k : ℕ) (xs : List ℕ) → i ≤ n → n ≤ i → xs ≡ listed (up_to i φ) k → xs ≡ listed (up_to n φ) k
  up_to_end i n k xs a b h =
      let e : i ≡ n = omega arith in
      rw e at h

  -- After the last of all places.
  pub up_to_all : (i n : ℕ) (xs : List ℕ) → i ≤ n → n ≤ i → xs ≡ listed (up_to i φ) n → xs ≡ listed φ n
  up_to_all i n xs a b h = up_to_end i n n xs a b h ∙ listed_same (up_to n φ) φ n (λ k l. up_to_below n k l)

-- What the first and the last answer of a loop that lists numbers take.
pub ruleset lists = (rules, listed_start, listed_end, up_to_none, up_to_end, up_to_all)
