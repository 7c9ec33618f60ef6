-- A part of a text: its bytes, its length, and parts one behind the other.
use Prim.Native.Nat.{ℕ, ◌+◌, ◌≤◌, ◌<◌}
use native.Mathlib.Omega.{arith}
use mathlib.Core.Path.{◌≡◌, refl, sym, ◌∙◌, ap}
use mathlib.Core.List.{List, [], ◌++◌}
use lib.ListN.{length, take, drop, get_or, length-append, length-take, length-drop}
use Rattle.laws.specs.Memory.{part}
use lib.Seq.{get_or-take, get_or-drop, take-add, drop-drop, ext_get_or, take_at, drop_at, take_all, length-take-le}

module _ (text : List ℕ) where
  pub part_byte : (at n i : ℕ) → i < n → get_or (part text at n) i 0 ≡ get_or text (at + i) 0
  unfolding part
  part_byte at n i l = get_or-take n (drop at text) i 0 l ∙ get_or-drop at text i 0

  pub part_length : (at n : ℕ) → at + n ≤ length text → length (part text at n) ≡ n
  unfolding part
  part_length at n l = length-take-le n (drop at text) (rw length-drop (omega arith))

  -- A whole part lies within the text.
  pub part_reach : (at n : ℕ) → 0 < n → length (part text at n) ≡ n → at + n ≤ length text
  unfolding part
  part_reach at n z e = omega (arith, sym (length-take n (drop at text)) ∙ e, length-drop at text)

  -- A part is its front and its rest.
  pub part_split : (at a b : ℕ) → part text at (a + b) ≡ part text at a ++ part text (at + a) b
  unfolding part
  part_split at a b = take-add a b (drop at text) ∙ ap (λ (r : List ℕ). take a (drop at text) ++ take b r) (drop-drop a at text)

  -- A part that is given byte by byte.
  pub part_is : (at n : ℕ) (xs : List ℕ) → at + n ≤ length text → length xs ≡ n → ((i : ℕ) → i < n → get_or text (at + i) 0 ≡ get_or xs i 0)
      → part text at n ≡ xs
  part_is at n xs l s h =
      ext_get_or 0 (part text at n) xs (part_length at n l ∙ sym s)
      (λ i k. let q : i < n = omega (arith, part_length at n l) in part_byte at n i q ∙ h i q)

pub part_none : (text : List ℕ) (at : ℕ) → part text at 0 ≡ []
unfolding part
part_none text at = refl

-- A part that is two blocks, one behind the other, taken apart.
pub part_blocks : (text xs ys : List ℕ) (at p n : ℕ) → length xs ≡ p → length ys ≡ n → 0 < p + n → part text at (p + n) ≡ xs ++ ys
    → (part text at p ≡ xs) × (part text (at + p) n ≡ ys)
part_blocks text xs ys at p n s k z e =
    let size : length (part text at (p + n)) ≡ p + n = ap length e ∙ length-append xs ys ∙ rw (s, k) in
    let reach : at + (p + n) ≤ length text = part_reach text at (p + n) z size in
    let front : length (part text at p) ≡ p = part_length text at p (omega arith) in
    let both : part text at p ++ part text (at + p) n ≡ xs ++ ys = sym (part_split text at p n) ∙ e in (
      sym (take_at (part text at p) (part text (at + p) n) p front) ∙ ap (take p) both ∙ take_at xs ys p s,
      sym (drop_at (part text at p) (part text (at + p) n) p front) ∙ ap (drop p) both ∙ drop_at xs ys p s,
    )

-- The whole text is its first part.
pub part_whole : (text : List ℕ) (n : ℕ) → length text ≡ n → part text 0 n ≡ text
unfolding part
part_whole text n s = take_all n text (omega arith)
