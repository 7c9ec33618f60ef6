-- The record of a view: its 65 numbers, its tag and its cells, where it lies and when a part of a memory is one.
use Prim.Native.Nat.{ℕ, zero, suc, ◌+◌, ◌≤◌, ◌<◌}
use native.Mathlib.Omega.{arith}
use native.Mathlib.Nat.{add-zero}
use mathlib.Core.List.{List, [], ◌∷◌}
use mathlib.Core.Path.{◌≡◌, refl, sym, ◌∙◌, ap}
use lib.ListN.{length, get_or, get_or-replicate}
use Rattle.laws.specs.Memory.{part}
use Rattle.laws.proofs.PartLaws.{part_byte, part_is}
use Rattle.route.specs.Route.{Answer, none, route, View, unheard, heard}
use Rattle.records.specs.Records.{record_of, shown, resized, slot}

-- A list that is cut or filled up to k numbers has k.
pub resized_length : (k : ℕ) (xs : List ℕ) → length (resized k xs) ≡ k
unfolding resized
resized_length zero xs = refl
resized_length (suc k) [] = ap suc (resized_length k [])
resized_length (suc k) (x ∷ xs) = ap suc (resized_length k xs)

-- A list of k numbers stays as it is.
pub resized_whole : (k : ℕ) (xs : List ℕ) → length xs ≡ k → resized k xs ≡ xs
unfolding resized
resized_whole zero [] e = refl
resized_whole zero (x ∷ xs) e = absurd (omega arith)
resized_whole (suc k) [] e = absurd (omega arith)
resized_whole (suc k) (x ∷ xs) e = ap (λ (xs : List ℕ). x ∷ xs) (resized_whole k xs (omega arith))

pub slot_length : (v : View) → length (slot v) ≡ 65
unfolding slot
slot_length unheard = resized_length 65 []
slot_length (heard x) = resized_length 65 (record_of x)

-- The numbers of a list filled up with zeros.
pub resized_number : (k : ℕ) (xs : List ℕ) (i : ℕ) → i < k → get_or (resized k xs) i 0 ≡ get_or xs i 0
unfolding resized
resized_number zero xs i l = absurd (omega arith)
resized_number (suc k) [] zero l = refl
resized_number (suc k) [] (suc i) l = resized_number k [] i (omega arith)
resized_number (suc k) (x ∷ xs) zero l = refl
resized_number (suc k) (x ∷ xs) (suc i) l = resized_number k xs i (omega arith)

-- The tag of a view, and its number at beat t.
unfoldable pub view_tag : View → ℕ
view_tag unheard = 0
view_tag (heard none) = 1
view_tag (heard (route r)) = 2

unfoldable pub view_number : View → ℕ → ℕ
view_number unheard t = 0
view_number (heard none) t = 0
view_number (heard (route r)) t = get_or r t 0

-- The record of a view begins with its tag.
pub slot_tag : (v : View) → get_or (slot v) 0 0 ≡ view_tag v
unfolding slot view_tag record_of
slot_tag unheard = resized_number 65 [] 0 (omega arith)
slot_tag (heard none) = resized_number 65 (record_of none) 0 (omega arith)
slot_tag (heard (route r)) = resized_number 65 (record_of (route r)) 0 (omega arith)

-- Behind it come its numbers.
pub slot_number : (v : View) (t : ℕ) → t < 64 → get_or (slot v) (suc t) 0 ≡ view_number v t
unfolding slot view_number record_of
slot_number unheard t l = resized_number 65 [] (suc t) (omega arith)
slot_number (heard none) t l = resized_number 65 (record_of none) (suc t) (omega arith) ∙ get_or-replicate 64 t 0 0 l
slot_number (heard (route r)) t l = resized_number 65 (record_of (route r)) (suc t) (omega arith)

pub tag_most : (v : View) → view_tag v ≤ 2
unfolding view_tag
tag_most unheard = omega arith
tag_most (heard none) = omega arith
tag_most (heard (route r)) = omega arith

pub heard_least : (x : Answer) → 1 ≤ view_tag (heard x)
unfolding view_tag
heard_least none = omega arith
heard_least (route r) = omega arith

-- A record that lies at a place: the tag and the numbers there.
module _ (m : List ℕ) (at : ℕ) (v : View) (e : part m at 65 ≡ slot v) where
  pub slot_read : (i : ℕ) → i < 65 → get_or m (at + i) 0 ≡ get_or (slot v) i 0
  slot_read i l = sym (part_byte m at 65 i l) ∙ ap (λ (xs : List ℕ). get_or xs i 0) e

  pub tag_read : get_or m at 0 ≡ view_tag v
  tag_read = rw add-zero at (slot_read 0 (omega arith)) ∙ slot_tag v

  pub number_read : (t : ℕ) → t < 64 → get_or m (at + 1 + t) 0 ≡ view_number v t
  number_read t l =
      let place : at + 1 + t ≡ at + suc t = omega arith in
      ap (λ (p : ℕ). get_or m p 0) place ∙ slot_read (suc t) (omega arith) ∙ slot_number v t l

-- A part is the record of a view if its tag and its numbers are.
pub part_slot : (m : List ℕ) (at : ℕ) (v : View) → at + 65 ≤ length m → get_or m at 0 ≡ view_tag v
    → ((t : ℕ) → t < 64 → get_or m (at + 1 + t) 0 ≡ view_number v t) → part m at 65 ≡ slot v
part_slot m at v l e h = part_is m at 65 (slot v) l (slot_length v) same
  where
    same : (i : ℕ) → i < 65 → get_or m (at + i) 0 ≡ get_or (slot v) i 0
    same zero k = rw add-zero (e ∙ sym (slot_tag v))
    same (suc t) k =
        let place : at + suc t ≡ at + 1 + t = omega arith in
        rw place (h t (omega arith) ∙ sym (slot_number v t (omega arith)))

-- A view with a tag of 1 or more shows an answer.
pub shows_answer : (v : View) → 1 ≤ view_tag v → heard (shown v) ≡ v
unfolding view_tag shown
shows_answer unheard l = absurd (omega arith)
shows_answer (heard x) l = refl

-- A view with tag 0 is not heard.
pub shows_nothing : (v : View) → view_tag v ≤ 0 → v ≡ unheard
unfolding view_tag
shows_nothing unheard l = refl
shows_nothing (heard none) l = absurd (omega arith)
shows_nothing (heard (route r)) l = absurd (omega arith)
