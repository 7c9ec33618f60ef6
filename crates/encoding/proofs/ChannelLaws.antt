-- A channel in memory: its oldest message, the channel without it, and the channel with one message more.
use Prim.Native.Nat.{ℕ, zero, suc, ◌+◌, ◌*◌, ◌-◌, ◌≤◌, ◌<◌}
use native.Mathlib.Omega.{arith}
use native.Mathlib.Nat.{add-zero}
use mathlib.Core.List.{List, [], ◌∷◌, ◌++◌}
use mathlib.Core.Path.{◌≡◌, refl, sym, ◌∙◌}
use lib.ListN.{length, get_or, length-append}
use borrow.Author.Tests.{lt-ltb}
use Rattle.laws.specs.Memory.{put}
use Rattle.route.specs.Route.{Answer, unheard, heard}
use Rattle.records.specs.Records.{record_of, resized, slot, moved}
use Rattle.reference.specs.Take.{newer}
use Rattle.encoding.specs.Encode.{slots, channel_block}
use Rattle.encoding.specs.InnerSteps.{shifted, popped, pushed}
use Rattle.encoding.proofs.WindowLaws.{Window, StandsAt, window_whole, window_front, window_behind, window_inside, window_old}
use Rattle.encoding.proofs.WindowLaws.{window_part, window_number, window_put}
use Rattle.records.proofs.SlotLaws.{resized_length, resized_whole, slot_length}

-- A record that stands at place p moved to place p'.
pub moved_is : {p p' : ℕ} {m m' xs ys : List ℕ} → StandsAt p m xs → Window p' m m' ys xs → length xs ≡ 65 → length ys ≡ 65 →
    moved m p p' ≡ m'
unfolding moved
moved_is w v x y = rw (window_part 65 x w) (window_put (y ∙ sym x) v)

-- Four records, one behind the other.
abbrev four : List ℕ → List ℕ → List ℕ → List ℕ → List ℕ
four xs₀ xs₁ xs₂ xs₃ = xs₀ ++ (xs₁ ++ (xs₂ ++ (xs₃ ++ [])))

-- A number and four records in a memory, the number's place being p, and where each of them stands.
module _ (xs ys : List ℕ) (p : ℕ) (place : length xs ≡ p) where
  -- The memory with block zs there.
  abbrev there : List ℕ → List ℕ
  there zs = xs ++ (zs ++ ys)

  there_window : (zs zs' : List ℕ) → Window p (there zs) (there zs') zs zs'
  there_window zs zs' = record { before = xs; after = ys; old = refl; new = refl; size = place }

  number_there : (k k' : ℕ) (zs : List ℕ) → Window p (there (k ∷ zs)) (there (k' ∷ zs)) (k ∷ []) (k' ∷ [])
  number_there k k' zs =
      window_inside p (add-zero p) (there_window (k ∷ zs) (k' ∷ zs)) (window_front zs (window_whole (k ∷ []) (k' ∷ [])))

  behind_there : (k p' : ℕ) {m m' zs zs' : List ℕ} → Window p' m m' zs zs' → Window (p + (1 + p')) (there (k ∷ m)) (there (k ∷ m')) zs zs'
  behind_there k p' {m = m} {m' = m'} w =
      window_inside (p + (1 + p')) refl (there_window (k ∷ m) (k ∷ m')) (window_behind (k ∷ []) 1 (1 + p') refl refl w)

  module _ (k : ℕ) (xs₀ xs₁ xs₂ xs₃ : List ℕ) (la : length xs₀ ≡ 65) (lb : length xs₁ ≡ 65) (lc : length xs₂ ≡ 65) where
    first : (zs : List ℕ) → Window (p + 1) (there (k ∷ four xs₀ xs₁ xs₂ xs₃)) (there (k ∷ four zs xs₁ xs₂ xs₃)) xs₀ zs
    first zs = behind_there k 0 (window_front (xs₁ ++ (xs₂ ++ (xs₃ ++ []))) (window_whole xs₀ zs))

    second : (zs : List ℕ) → Window (p + 66) (there (k ∷ four xs₀ xs₁ xs₂ xs₃)) (there (k ∷ four xs₀ zs xs₂ xs₃)) xs₁ zs
    second zs = behind_there k 65 (window_behind xs₀ 65 65 la refl (window_front (xs₂ ++ (xs₃ ++ [])) (window_whole xs₁ zs)))

    third : (zs : List ℕ) → Window (p + 131) (there (k ∷ four xs₀ xs₁ xs₂ xs₃)) (there (k ∷ four xs₀ xs₁ zs xs₃)) xs₂ zs
    third zs =
        behind_there k 130 (window_behind xs₀ 65 130 la refl
        (window_behind xs₁ 65 65 lb refl (window_front (xs₃ ++ []) (window_whole xs₂ zs))))

    fourth : (zs : List ℕ) → Window (p + 196) (there (k ∷ four xs₀ xs₁ xs₂ xs₃)) (there (k ∷ four xs₀ xs₁ xs₂ zs)) xs₃ zs
    fourth zs =
        behind_there k 195
        (window_behind xs₀ 65 195 la refl
        (window_behind xs₁ 65 130 lb refl (window_behind xs₂ 65 65 lc refl (window_front [] (window_whole xs₃ zs)))))

  -- The others move up, the last place is cleared, and the number falls.
  module _ (k : ℕ) (xs₀ xs₁ xs₂ xs₃ : List ℕ) (la : length xs₀ ≡ 65) (lb : length xs₁ ≡ 65) (lc : length xs₂ ≡ 65)
      (ld : length xs₃ ≡ 65) where
    shifted_four : shifted (there (k ∷ four xs₀ xs₁ xs₂ xs₃)) p ≡ there (k ∷ four xs₁ xs₂ xs₃ (resized 65 []))
    unfolding shifted
    shifted_four =
        let one : moved (there (k ∷ four xs₀ xs₁ xs₂ xs₃)) (p + 66) (p + 1) ≡ there (k ∷ four xs₁ xs₁ xs₂ xs₃) =
        moved_is (window_old (second k xs₀ xs₁ xs₂ xs₃ la lb lc xs₁)) (first k xs₀ xs₁ xs₂ xs₃ la lb lc xs₁) lb la
        in
        let two : moved (there (k ∷ four xs₁ xs₁ xs₂ xs₃)) (p + 131) (p + 66) ≡ there (k ∷ four xs₁ xs₂ xs₂ xs₃) =
        moved_is (window_old (third k xs₁ xs₁ xs₂ xs₃ lb lb lc xs₂)) (second k xs₁ xs₁ xs₂ xs₃ lb lb lc xs₂) lc lb
        in
        let three : moved (there (k ∷ four xs₁ xs₂ xs₂ xs₃)) (p + 196) (p + 131) ≡ there (k ∷ four xs₁ xs₂ xs₃ xs₃) =
        moved_is (window_old (fourth k xs₁ xs₂ xs₂ xs₃ lb lc lc xs₃)) (third k xs₁ xs₂ xs₂ xs₃ lb lc lc xs₃) ld lc
        in
        let zeros : put (there (k ∷ four xs₁ xs₂ xs₃ xs₃)) (p + 196) (resized 65 []) ≡ there (k ∷ four xs₁ xs₂ xs₃ (resized 65 [])) =
        window_put (ld ∙ sym (resized_length 65 [])) (fourth k xs₁ xs₂ xs₃ xs₃ lb lc ld (resized 65 []))
        in
        rw (one, two, three) zeros

    popped_four : popped (there (k ∷ four xs₀ xs₁ xs₂ xs₃)) p ≡ there ((k - 1) ∷ four xs₁ xs₂ xs₃ (resized 65 []))
    unfolding popped
    popped_four =
        let number : get_or (there (k ∷ four xs₀ xs₁ xs₂ xs₃)) p 0 ≡ k =
        window_number 0 p (omega arith) (add-zero p) (number_there k k (four xs₀ xs₁ xs₂ xs₃))
        in
        rw (number, shifted_four) (window_put refl (number_there k (k - 1) (four xs₁ xs₂ xs₃ (resized 65 []))))

-- A channel with one to four messages without its oldest.
popped_there : (xs ys : List ℕ) (p : ℕ) → length xs ≡ p → (zs : List Answer) → 0 < length zs → length zs ≤ 4 →
    popped (xs ++ (channel_block zs ++ ys)) p ≡ xs ++ (channel_block (newer zs) ++ ys)
unfolding channel_block slots newer slot
popped_there xs ys p e [] low high = absurd (omega arith)
popped_there xs ys p e (x₁ ∷ []) low high =
    popped_four xs ys p e 1 (resized 65 (record_of x₁)) (resized 65 []) (resized 65 []) (resized 65 [])
    (resized_length 65 (record_of x₁)) (resized_length 65 [])
    (resized_length 65 []) (resized_length 65 [])
popped_there xs ys p e (x₁ ∷ x₂ ∷ []) low high =
    popped_four xs ys p e 2 (resized 65 (record_of x₁)) (resized 65 (record_of x₂)) (resized 65 []) (resized 65 [])
    (resized_length 65 (record_of x₁))
    (resized_length 65 (record_of x₂)) (resized_length 65 []) (resized_length 65 [])
popped_there xs ys p e (x₁ ∷ x₂ ∷ x₃ ∷ []) low high =
    popped_four xs ys p e 3 (resized 65 (record_of x₁)) (resized 65 (record_of x₂)) (resized 65 (record_of x₃)) (resized 65 [])
    (resized_length 65 (record_of x₁))
    (resized_length 65 (record_of x₂)) (resized_length 65 (record_of x₃)) (resized_length 65 [])
popped_there xs ys p e (x₁ ∷ x₂ ∷ x₃ ∷ x₄ ∷ []) low high =
    popped_four xs ys p e 4 (resized 65 (record_of x₁)) (resized 65 (record_of x₂)) (resized 65 (record_of x₃)) (resized 65 (record_of x₄))
    (resized_length 65 (record_of x₁)) (resized_length 65 (record_of x₂)) (resized_length 65 (record_of x₃)) (resized_length 65 (record_of x₄))
popped_there xs ys p e (x₁ ∷ x₂ ∷ x₃ ∷ x₄ ∷ x₅ ∷ zs) low high = absurd (omega arith)

pub popped_is : {p : ℕ} {m m' : List ℕ} (xs : List Answer) → 0 < length xs → length xs ≤ 4 →
    Window p m m' (channel_block xs) (channel_block (newer xs)) → popped m p ≡ m'
popped_is {p = p} xs low high w = rw (w.old, w.new) (popped_there w.before w.after p w.size xs low high)

-- The oldest message.
pub oldest_stands : (x : Answer) (xs : List Answer) → StandsAt 1 (channel_block (x ∷ xs)) (slot (heard x))
unfolding channel_block slots
oldest_stands x xs =
    window_behind (length (x ∷ xs) ∷ []) 1 1 refl refl (window_front (slots 3 xs) (window_whole (slot (heard x)) (slot (heard x))))

-- The first place that is not used, and the channel with a message there.
unused_window : (k : ℕ) (xs : List Answer) (x : Answer) → length xs < k →
    Window (65 * length xs) (slots k xs) (slots k (xs ++ (x ∷ []))) (slot unheard) (slot (heard x))
unfolding slots
unused_window zero xs x h = absurd (omega arith)
unused_window (suc k) [] x h = window_front (slots k []) (window_whole (slot unheard) (slot (heard x)))
unused_window (suc k) (y ∷ xs) x h =
    window_behind (slot (heard y)) 65 (65 * suc (length xs)) (slot_length (heard y)) (omega arith) (unused_window k xs x (omega arith))

-- A channel with fewer than four messages with one more.
pushed_there : (xs ys : List ℕ) (p : ℕ) → length xs ≡ p → (zs : List Answer) (x : Answer) → length zs < 4 → length (record_of x) ≡ 65 →
    pushed (xs ++ (channel_block zs ++ ys)) p (record_of x) ≡ xs ++ (channel_block (zs ++ (x ∷ [])) ++ ys)
unfolding channel_block pushed
pushed_there xs ys p e zs x h whole =
    let k : ℕ = length zs in
    let number : get_or (xs ++ ((k ∷ slots 4 zs) ++ ys)) p 0 ≡ k =
    window_number 0 p (omega arith) (add-zero p) (number_there xs ys p e k k (slots 4 zs))
    in
    let rec : record_of x ≡ slot (heard x) = unfold slot in sym (resized_whole 65 (record_of x) whole) in
    let place : p + 1 + 65 * k ≡ p + (1 + 65 * k) = omega arith in
    let one : put (xs ++ ((k ∷ slots 4 zs) ++ ys)) (p + 1 + 65 * k) (record_of x) ≡ xs ++ ((k ∷ slots 4 (zs ++ (x ∷ []))) ++ ys) =
    rw (rec, place)
    (window_put (slot_length unheard ∙ sym (slot_length (heard x))) (behind_there xs ys p e k (65 * k) (unused_window 4 zs x h)))
    in
    let longer : length (zs ++ (x ∷ [])) ≡ k + 1 = length-append zs (x ∷ []) in
    rw (number, lt-ltb k 4 h, one, longer) (window_put refl (number_there xs ys p e k (k + 1) (slots 4 (zs ++ (x ∷ [])))))

pub pushed_is : {p : ℕ} {m m' : List ℕ} (xs : List Answer) (x : Answer) → length xs < 4 → length (record_of x) ≡ 65 →
    Window p m m' (channel_block xs) (channel_block (xs ++ (x ∷ []))) → pushed m p (record_of x) ≡ m'
pushed_is {p = p} xs x h whole w = rw (w.old, w.new) (pushed_there w.before w.after p w.size xs x h whole)
