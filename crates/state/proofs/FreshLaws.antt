-- The fresh state as numbers: two zeros, a block a carrier, and zeros.
use Prim.Native.Nat.{ℕ, zero, suc, ◌+◌, ◌*◌, ◌-◌, ◌≤◌}
use native.Mathlib.Omega.{arith}
use native.Mathlib.Nat.{zero-add, mul-zero, mul-suc, mul-add}
use native.Mathlib.Numerals.{add-one}
use mathlib.Core.Path.{◌≡◌, refl, sym, ◌∙◌, ap, ap₂}
use mathlib.Core.List.{List, [], ◌∷◌, ◌++◌, append_assoc}
use lib.ListN.{length, take, drop, replicate, length-append, length-drop, length-replicate, replicate-append-replicate}
use lib.Seq.{length-take-le, drop-drop}
use borrow.Rule.Slice.PartMut.{put_mid}
use Rattle.laws.specs.Memory.{put}
use Rattle.laws.proofs.PutLaws.{put_next}
use Rattle.records.specs.Records.{record_of, resized, slot}
use Rattle.reference.specs.State.{fresh}
use Rattle.encoding.proofs.SplitLaws.{carrier_length}
use Rattle.encoding.proofs.StateLaws.{carriers_length}
use Rattle.encoding.specs.Places.{pairs_before, state_size}
use Rattle.encoding.specs.Encode.{flag, slots, channel_block, carrier_block, count_block, blocks, pairs, encode}

pub carrier_is : (i : ℕ) → 0 ∷ (1 ∷ (1 ∷ replicate 64 0)) ≡ carrier_block fresh i
unfolding carrier_block fresh slot resized record_of flag
carrier_is i = refl

-- Zeros by blocks, of all carriers and of all pairs.
zero_blocks : (w k : ℕ) (φ : ℕ → List ℕ) → ((i : ℕ) → φ i ≡ replicate w 0) → blocks k φ ≡ replicate (w * k) 0
unfolding blocks
zero_blocks w zero φ h = rw (mul-zero w) refl
zero_blocks w (suc k) φ h =
    rw (zero_blocks w k φ h, h k, mul-suc w k) (replicate-append-replicate (w * k) w 0)

zero_pairs : (w n : ℕ) (φ : ℕ → ℕ → List ℕ) → ((i j : ℕ) → φ i j ≡ replicate w 0) → pairs n φ ≡ replicate (w * pairs_before n) 0
unfolding pairs blocks pairs_before
zero_pairs w zero φ h = rw (mul-zero w) refl
zero_pairs w (suc n) φ h =
    rw (zero_pairs w n φ h, zero_blocks w n (φ n) (h n), mul-add w (pairs_before n) n)
    (replicate-append-replicate (w * pairs_before n) (w * n) 0)

-- The loop over carriers: one more.
pub carriers_more : (m m' m'' : List ℕ) (i : ℕ) → 69 + 67 * i ≤ length m → m' ≡ put m 2 (blocks i (carrier_block fresh)) →
    m'' ≡ put m' (2 + 67 * i) (carrier_block fresh i) → m'' ≡ put m 2 (blocks (i + 1) (carrier_block fresh))
unfolding blocks
carriers_more m m' m'' i l e g =
    rw add-one
    (put_next m m' m'' (blocks i (carrier_block fresh)) (carrier_block fresh i) 2 (2 + 67 * i) e g (omega (arith, carriers_length i fresh))
    (omega (arith, carrier_length fresh i)))

view_zeros : (i j : ℕ) → slot (fresh.view i j) ≡ replicate 65 0
unfolding slot fresh resized
view_zeros i j = refl

channel_zeros : (i j : ℕ) → channel_block (fresh.chan i j) ≡ replicate 261 0
unfolding channel_block slots slot fresh resized
channel_zeros i j = refl

-- The whole.
fresh_is : (n : ℕ) → encode n fresh ≡ (0 ∷ (0 ∷ [])) ++ (blocks n (carrier_block fresh) ++ replicate (326 * pairs_before n) 0)
unfolding encode count_block fresh
fresh_is n =
    let views = zero_pairs 65 n (λ i j. slot (fresh.view i j)) (λ i j. view_zeros i j) in
    let chans = zero_pairs 261 n (λ i j. channel_block (fresh.chan i j)) (λ i j. channel_zeros i j) in
    let sum : 65 * pairs_before n + 261 * pairs_before n ≡ 326 * pairs_before n = omega arith in
    let tail = ap₂ ◌++◌ views chans
    ∙ replicate-append-replicate (65 * pairs_before n) (261 * pairs_before n) 0
    ∙ ap (λ (k : ℕ). replicate k 0) sum in
    ap (λ (xs : List ℕ). 0 ∷ (0 ∷ (blocks n (carrier_block fresh) ++ xs))) tail

pub fresh_whole : (m m₁ m₂ m₃ : List ℕ) (n a b : ℕ) → state_size n ≤ length m → m₁ ≡ put m 0 (replicate 2 0) →
    m₂ ≡ put m₁ 2 (blocks n (carrier_block fresh)) → a ≡ 2 + 67 * n → b ≡ state_size n → m₃ ≡ put m₂ a (replicate (b - a) 0) →
    m₃ ≡ put m 0 (encode n fresh)
unfolding state_size
fresh_whole m m₁ m₂ m₃ n a b l e g from to k =
    let rest : b - a ≡ 326 * pairs_before n = omega arith in
    let h : m₃ ≡ put m₂ (2 + 67 * n) (replicate (326 * pairs_before n) 0) = k ∙ rw (rest, from) refl in
    let zeros : List ℕ = replicate (326 * pairs_before n) 0 in
    let front : List ℕ = replicate 2 0 in
    let size = carriers_length n fresh in
    let one = put_next m m₁ m₂ front (blocks n (carrier_block fresh)) 0 2 e g (omega arith) (omega arith) in
    let two = put_next m m₂ m₃ (front ++ blocks n (carrier_block fresh)) zeros 0 (2 + 67 * n) one h
    (omega (arith, length-append front (blocks n (carrier_block fresh))))
    (omega (arith, length-replicate {A = ℕ} (326 * pairs_before n) 0)) in
    two ∙ ap (put m 0) (append_assoc front (blocks n (carrier_block fresh)) zeros ∙ sym (fresh_is n))

-- Zeros in front of a memory, and zeros within one.
pub zeros_front : (m xs : List ℕ) (k : ℕ) → k ≤ length m → xs ≡ replicate (length (take k m)) 0 → xs ++ drop k m ≡ put m 0 (replicate k 0)
unfolding put
zeros_front m xs k l e =
    let long : length (take k m) ≡ k = length-take-le k m l in
    rw (e, long, length-replicate {A = ℕ} k 0, zero-add) refl

pub zeros_mid : (m xs : List ℕ) (a k : ℕ) → a + k ≤ length m → xs ≡ replicate (length (take k (drop a m))) 0
    → put_mid a k m xs ≡ put m a (replicate k 0)
unfolding put
zeros_mid m xs a k l e =
    let long : length (take k (drop a m)) ≡ k = length-take-le k (drop a m) (simp length-drop (omega arith)) in
    rw (e, long, length-replicate {A = ℕ} k 0, drop-drop k a m) refl
