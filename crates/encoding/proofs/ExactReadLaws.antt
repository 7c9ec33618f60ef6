-- The memory of a state within the ranges shows that state in every part: two such states have one memory exactly if they are alike.
use Prim.Native.Nat.{ℕ, zero, suc, ◌+◌, ◌*◌, ◌/◌, ◌%◌, ◌≤◌, ◌<◌}
use native.Mathlib.Omega.{arith}
use mathlib.Core.List.{List, [], ◌∷◌, ◌++◌}
use mathlib.Core.Logic.{◌↔◌}
use mathlib.Core.Path.{◌≡◌, refl, sym, ◌∙◌, ap, ap₂}
use lib.ListN.{length, get_or}
use Rattle.laws.specs.Memory.{part}
use Rattle.floor.specs.declared.Floor.{Floor}
use Rattle.route.specs.Route.{Answer, heard}
use Rattle.reference.specs.State.{State}
use Rattle.reference.specs.Bounds.{AllOf, ShownOf}
use Rattle.encoding.specs.Places.{answer_place, view_place, channel_place}
use Rattle.encoding.specs.Encode.{slots, channel_block, carrier_block, count_block, blocks, pairs, encode}
use Rattle.records.specs.Records.{slot, record_at, shown}
use Rattle.encoding.specs.Decode.{messages, decode}
use Rattle.encoding.specs.Ranges.{Sound, WithinRanges}
use Rattle.encoding.specs.Alike.{Alike}
use Rattle.encoding.proofs.SplitLaws.{slots_length, blocks_same}
use Rattle.encoding.proofs.OpenLaws.{flag_set}
use Rattle.encoding.proofs.ReadLaws.{read_thousands, read_rest, read_planned, read_due, read_answer, read_view, read_channel}
use Rattle.encoding.proofs.RecordLaws.{record_shows, sound_whole, shown_whole}
use Rattle.encoding.proofs.ValidChannelLaws.{first_next, count_read, places_read}

-- The record of an answer shows that answer.
answer_back : (f : Floor) (m : List ℕ) (at : ℕ) (x : Answer) → part m at 65 ≡ slot (heard x) → Sound f x → shown (record_at m at) ≡ x
unfolding ShownOf shown
answer_back f m at x e h = ap shown (record_shows m at (heard x) e (sound_whole f x h))

-- The records of messages with sound cells show those messages.
messages_back : (f : Floor) (m : List ℕ) (k at : ℕ) (xs : List Answer) → length xs ≤ k → part m at (65 * k) ≡ slots k xs →
    AllOf (Sound f) xs
    → messages m at (length xs) ≡ xs
unfolding slots messages AllOf
messages_back f m zero at [] b e h = refl
messages_back f m zero at (x ∷ xs) b e h = absurd (omega arith)
messages_back f m (suc k) at [] b e h = refl
messages_back f m (suc k) at (y ∷ xs) b e h =
    let r = first_next m at k (heard y) (slots k xs) (slots_length k xs) e in
    ap₂ (λ (x : Answer) (xs : List Answer). x ∷ xs) (answer_back f m at y r.0 h.0)
    (messages_back f m k (at + 65) xs (omega arith) r.1 h.1)

-- A channel shows its messages.
channel_back : (f : Floor) (m : List ℕ) (at : ℕ) (xs : List Answer) → part m at 261 ≡ channel_block xs → length xs ≤ 4 → AllOf (Sound f) xs
    → messages m (at + 1) (get_or m at 0) ≡ xs
channel_back f m at xs e b h = rw (count_read m at xs e) (messages_back f m 4 (at + 1) xs b (places_read m at xs e) h)

-- The count is read back.
count_back : (t : ℕ) → 1000 * (t / 1000) + t % 1000 ≡ t
count_back t = omega arith

-- The memory of a state shows that state.
pub encode_shows : (f : Floor) (s : State) (rest : List ℕ) → f.depth ≤ 4 → WithinRanges f s
    → Alike f.carriers (decode f.carriers (encode f.carriers s ++ rest)) s
unfolding decode
encode_shows f s rest d h =
    let n = f.carriers in
    let m = encode n s ++ rest in
    record {
      same_planned = λ i l. rw (read_planned n s rest i l) (flag_set (s.planned i));
      same_due = λ i l. rw (read_due n s rest i l) (flag_set (s.due i));
      same_answer_lem = λ i l. answer_back f m (answer_place i) (s.answer i) (read_answer n s rest i l) (h.parts.answers i l);
      same_view =
          λ i j a b.
          record_shows m (view_place n i j) (s.view i j) (read_view n s rest i j a b)
          (shown_whole f (s.view i j) (h.parts.seen i j a b));
      same_channel =
          λ i j a b.
          let few : length (s.chan i j) ≤ 4 = omega (arith, h.channels i j a b) in
          channel_back f m (channel_place n i j) (s.chan i j) (read_channel n s rest i j a b) few (h.parts.messages i j a b);
      same_taken = rw (read_thousands n s rest, read_rest n s rest) (count_back s.taken);
    }

-- Two states that are both alike to one are alike.
alike_both : (n : ℕ) (s z y : State) → Alike n y s → Alike n y z → Alike n s z
alike_both n s z y h k =
    record {
      same_planned = λ i l. sym (h.same_planned i l) ∙ k.same_planned i l;
      same_due = λ i l. sym (h.same_due i l) ∙ k.same_due i l;
      same_answer_lem = λ i l. sym (h.same_answer_lem i l) ∙ k.same_answer_lem i l;
      same_view = λ i j a b. sym (h.same_view i j a b) ∙ k.same_view i j a b;
      same_channel = λ i j a b. sym (h.same_channel i j a b) ∙ k.same_channel i j a b;
      same_taken = sym h.same_taken ∙ k.same_taken;
    }

-- States that are alike have one encoding.
pairs_same : (n : ℕ) (φ ψ : ℕ → ℕ → List ℕ) → ((i j : ℕ) → j < i → i < n → φ i j ≡ ψ i j) → pairs n φ ≡ pairs n ψ
unfolding pairs
pairs_same n φ ψ h = blocks_same n (λ i. blocks i (φ i)) (λ i. blocks i (ψ i)) (λ i l. blocks_same i (φ i) (ψ i) (λ j a. h i j a l))

alike_encode : (n : ℕ) (s z : State) → Alike n s z → encode n s ≡ encode n z
unfolding encode carrier_block
alike_encode n s z h =
    ap₂ ◌++◌ (ap count_block h.same_taken)
    (ap₂ ◌++◌ (blocks_same n (carrier_block s) (carrier_block z) (λ i l. rw (h.same_planned i l, h.same_due i l, h.same_answer_lem i l)))
    (ap₂ ◌++◌ (pairs_same n (λ i j. slot (s.view i j)) (λ i j. slot (z.view i j)) (λ i j a b. ap slot (h.same_view i j a b)))
    (pairs_same n (λ i j. channel_block (s.chan i j)) (λ i j. channel_block (z.chan i j))
    (λ i j a b. ap channel_block (h.same_channel i j a b)))))

pub encode_exactly : (f : Floor) (s z : State) → f.depth ≤ 4 → WithinRanges f s → WithinRanges f z
    → (encode f.carriers s ≡ encode f.carriers z) ↔ Alike f.carriers s z
encode_exactly f s z d h k = (
  λ e.
      let n = f.carriers in
      let y = decode n (encode n s ++ []) in
      alike_both n s z y (encode_shows f s [] d h) (rw (sym e) at (encode_shows f z [] d k)),
  alike_encode f.carriers s z,
)
