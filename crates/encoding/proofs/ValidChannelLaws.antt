-- Which channels are valid: those of at most depth messages with sound cells, and no others.
use Prim.Native.Nat.{ℕ, zero, suc, ◌+◌, ◌*◌, ◌≤◌, ◌<◌}
use native.Mathlib.Omega.{arith}
use native.Mathlib.Nat.{add-zero}
use mathlib.Core.Bool.{true}
use mathlib.Core.List.{List, [], ◌∷◌, ◌++◌}
use mathlib.Core.Path.{◌≡◌, refl, sym, ◌∙◌, ap, ap₂}
use borrow.Author.Tests.{leb-true, lt-ltb, le-ltb, le-leb}
use lib.Dec.{leb, leb-suc-suc}
use lib.ListN.{length, get_or}
use Rattle.laws.specs.Memory.{part}
use Rattle.laws.proofs.PartLaws.{part_byte, part_split, part_blocks, part_none}
use Rattle.floor.specs.declared.Floor.{Floor}
use Rattle.route.specs.Route.{Answer, View, unheard, heard}
use Rattle.laws.proofs.Tests.{and_both, and_fst, and_snd}
use Rattle.laws.specs.Verdict.{each}
use Rattle.reference.specs.Bounds.{AllOf}
use Rattle.laws.proofs.HoldLaws.{each_holds, each_true}
use Rattle.encoding.specs.Encode.{slots, channel_block}
use Rattle.records.specs.Records.{slot, record_at, shown}
use Rattle.encoding.specs.Decode.{messages}
use Rattle.encoding.specs.Valid.{record_valid, place_valid, channel_valid}
use Rattle.encoding.specs.Ranges.{Sound}
use Rattle.encoding.proofs.SplitLaws.{slots_length}
use Rattle.records.proofs.SlotLaws.{slot_length}
use Rattle.encoding.proofs.RecordLaws.{answer_valid, unused_valid, answer_told, unused_told}
use Rattle.encoding.proofs.ValidPartLaws.{part_one}

-- A place of a channel with a message is valid where its record is an answer's; one past the messages where it is unused.
place_message : (f : Floor) (m : List ℕ) (at count p : ℕ) → p < count → place_valid f m at count p ≡ record_valid f m (at + 65 * p) 1 2
unfolding place_valid
place_message f m at count p l = rw (lt-ltb p count l)

place_unused : (f : Floor) (m : List ℕ) (at count p : ℕ) → count ≤ p → place_valid f m at count p ≡ record_valid f m (at + 65 * p) 0 0
unfolding place_valid
place_unused f m at count p l = rw (le-ltb p count l)

-- The places of k records that hold the messages l, one by one.
pub first_next : (m : List ℕ) (at k : ℕ) (v : View) (rest : List ℕ) → length rest ≡ 65 * k → part m at (65 * suc k) ≡ slot v ++ rest
    → (part m at 65 ≡ slot v) × (part m (at + 65) (65 * k) ≡ rest)
first_next m at k v rest s e =
    let n : 65 * suc k ≡ 65 + 65 * k = omega arith in
    part_blocks m (slot v) rest at 65 (65 * k) (slot_length v) s (omega arith) (rw n at e)

-- The place behind the first, counted from the next record on.
next : (at p : ℕ) → at + 65 * suc p ≡ at + 65 + 65 * p
next at p = omega arith

-- A place behind the first is a place of what lies behind the first record.
place_next : (f : Floor) (m : List ℕ) (at count p : ℕ) → place_valid f m at (suc count) (suc p) ≡ place_valid f m (at + 65) count p
unfolding place_valid
place_next f m at count p = rw (next at p, leb-suc-suc (suc p) count)

-- The places of k records that hold messages with sound cells are valid.
places_valid : (f : Floor) (m : List ℕ) (at k : ℕ) (xs : List Answer) → part m at (65 * k) ≡ slots k xs → AllOf (Sound f) xs
    → (p' : ℕ) → p' < k → place_valid f m at (length xs) p' ≡ true
unfolding slots AllOf
places_valid f m at zero xs e h p' b = absurd (omega arith)
places_valid f m at (suc k) [] e h zero b =
    place_unused f m at 0 0 (omega arith)
    ∙ rw add-zero (unused_valid f m at (first_next m at k unheard (slots k []) (slots_length k []) e).0)
places_valid f m at (suc k) [] e h (suc p') b =
    let r = (first_next m at k unheard (slots k []) (slots_length k []) e).1 in
    place_unused f m at 0 (suc p') (omega arith)
    ∙ ap (λ (p : ℕ). record_valid f m p 0 0) (next at p')
    ∙ sym (place_unused f m (at + 65) 0 p' (omega arith))
    ∙ places_valid f m (at + 65) k [] r tt p' (omega arith)
places_valid f m at (suc k) (x ∷ xs) e h zero b =
    place_message f m at (suc (length xs)) 0 (omega arith)
    ∙ rw add-zero (answer_valid f m at x (first_next m at k (heard x) (slots k xs) (slots_length k xs) e).0 h.0)
places_valid f m at (suc k) (x ∷ xs) e h (suc p') b =
    place_next f m at (length xs) p'
    ∙ places_valid f m (at + 65) k xs (first_next m at k (heard x) (slots k xs) (slots_length k xs) e).1 h.1 p' (omega arith)

-- A channel that lies at a place: its number of messages, and its places.
module _ (m : List ℕ) (at : ℕ) (xs : List Answer) (e : part m at 261 ≡ channel_block xs) where
  both : (part m at 1 ≡ length xs ∷ []) × (part m (at + 1) 260 ≡ slots 4 xs)
  unfolding channel_block
  both = part_blocks m (length xs ∷ []) (slots 4 xs) at 1 260 refl (slots_length 4 xs) (omega arith) e

  pub count_read : get_or m at 0 ≡ length xs
  count_read =
      let q = part_byte m at 1 0 (omega arith) in
      sym (rw add-zero at q) ∙ ap (λ (xs : List ℕ). get_or xs 0 0) both.0

  pub places_read : part m (at + 1) 260 ≡ slots 4 xs
  places_read = both.1

  -- The channel is valid.
  pub channel_valid_lem : (f : Floor) → length xs ≤ f.depth → AllOf (Sound f) xs → channel_valid f m at ≡ true
  unfolding channel_valid
  channel_valid_lem f d h =
      let places = places_valid f m (at + 1) 4 xs both.1 h in
      rw count_read (and_both (le-leb (length xs) f.depth d) (each_true 4 (place_valid f m (at + 1) (length xs)) places))

-- A record and the k records behind it are k + 1 records.
one_more : (m : List ℕ) (at k : ℕ) (xs ys : List ℕ) → part m at 65 ≡ xs → part m (at + 65) (65 * k) ≡ ys → part m at (65 * suc k) ≡ xs ++ ys
one_more m at k xs ys e h =
    let n : 65 * suc k ≡ 65 + 65 * k = omega arith in
    rw n (part_split m at 65 (65 * k) ∙ ap₂ ◌++◌ e h)

-- A place holds the record of an answer, or of nothing.
abbrev Held : List ℕ → ℕ → Type 0
Held m at = part m at 65 ≡ slot (heard (shown (record_at m at)))

abbrev EmptySlot : List ℕ → ℕ → Type 0
EmptySlot m at = part m at 65 ≡ slot unheard

-- Where the first places hold answers and the others nothing, the places are those of the messages that they show.
slots_told : (m : List ℕ) (k at count : ℕ) → count ≤ k → ((p : ℕ) → p < count → Held m (at + 65 * p))
    → ((p : ℕ) → count ≤ p → p < k → EmptySlot m (at + 65 * p)) → part m at (65 * k) ≡ slots k (messages m at count)
unfolding slots messages
slots_told m zero at zero c h g = part_none m at
slots_told m zero at (suc count) c h g = absurd (omega arith)
slots_told m (suc k) at zero c h g =
    one_more m at k (slot unheard) (slots k []) (rw add-zero at (g 0 (omega arith) (omega arith)))
    (slots_told m k (at + 65) zero (omega arith) (λ p l. absurd (omega arith))
    (λ p l b. rw (next at p) at (g (suc p) (omega arith) (omega arith))))
slots_told m (suc k) at (suc count) c h g =
    one_more m at k (slot (heard (shown (record_at m at)))) (slots k (messages m (at + 65) count)) (rw add-zero at (h 0 (omega arith)))
    (slots_told m k (at + 65) count (omega arith) (λ p l. rw (next at p) at (h (suc p) (omega arith)))
    (λ p l b. rw (next at p) at (g (suc p) (omega arith) (omega arith))))

-- The number of messages, and what holds of all of them.
pub messages_length : (m : List ℕ) (at count : ℕ) → length (messages m at count) ≡ count
unfolding messages
messages_length m at zero = refl
messages_length m at (suc count) = ap suc (messages_length m (at + 65) count)

messages_all : (P : Answer → Type 0) (m : List ℕ) (at count : ℕ) → ((p : ℕ) → p < count → P (shown (record_at m (at + 65 * p))))
    → AllOf P (messages m at count)
unfolding messages AllOf
messages_all P m at zero h = tt
messages_all P m at (suc count) h =
    (rw add-zero at (h 0 (omega arith)), messages_all P m (at + 65) count (λ p l. rw (next at p) at (h (suc p) (omega arith))))

-- What a valid channel tells: it is that of the messages that it shows, at most depth of them, whose cells are sound.
pub record Channelled (f : Floor) (m : List ℕ) (at : ℕ) (xs : List Answer) : Type 0 where
  pub same : part m at 261 ≡ channel_block xs
  pub most : length xs ≤ f.depth
  pub sound : AllOf (Sound f) xs

module _ (f : Floor) (m : List ℕ) (at : ℕ) (short : f.horizon ≤ 63) (shallow : f.depth ≤ 4) (long : at + 261 ≤ length m)
    (e : channel_valid f m at ≡ true) where
  abbrev count : ℕ
  count = get_or m at 0

  count_most : count ≤ f.depth
  unfolding channel_valid
  count_most = leb-true count f.depth (and_fst (leb count f.depth) (each 4 (place_valid f m (at + 1) count)) e)

  place_holds : (p : ℕ) → p < 4 → place_valid f m (at + 1) count p ≡ true
  unfolding channel_valid
  place_holds =
      each_holds 4 (place_valid f m (at + 1) count) (and_snd (leb count f.depth) (each 4 (place_valid f m (at + 1) count)) e)

  message_told : (p : ℕ) → p < count → Held m (at + 1 + 65 * p) × Sound f (shown (record_at m (at + 1 + 65 * p)))
  message_told p l =
      let b : p < 4 = omega (arith, count_most) in
      answer_told f m (at + 1 + 65 * p) short (omega arith) (sym (place_message f m (at + 1) count p l) ∙ place_holds p b)

  empty_told : (p : ℕ) → count ≤ p → p < 4 → EmptySlot m (at + 1 + 65 * p)
  empty_told p l b =
      unused_told f m (at + 1 + 65 * p) short (omega arith) (sym (place_unused f m (at + 1) count p l) ∙ place_holds p b)

  pub channel_told : Channelled f m at (messages m (at + 1) count)
  unfolding channel_block
  channel_told =
      let xs = messages m (at + 1) count in
      let places : part m (at + 1) 260 ≡ slots 4 xs =
      slots_told m 4 (at + 1) count (omega (arith, count_most)) (λ p b. (message_told p b).0) empty_told
      in
      record {
        same =
            part_split m at 1 260
            ∙ ap₂ ◌++◌ (part_one m at (omega arith)) places
            ∙ ap (λ (n : ℕ). n ∷ slots 4 xs) (sym (messages_length m (at + 1) count));
        most = rw messages_length count_most;
        sound = messages_all (Sound f) m (at + 1) count (λ p b. (message_told p b).1);
      }
