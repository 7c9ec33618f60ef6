-- Fields one behind the other, and lines as fields and a newline.
use Prim.Native.Nat.{ℕ, ◌+◌, ◌*◌, ◌≤◌, ◌<◌}
use native.Mathlib.Omega.{arith}
use native.Mathlib.Numerals.{add-one}
use mathlib.Core.Path.{◌≡◌, refl, sym, ◌∙◌, ap}
use mathlib.Core.List.{List, [], ◌∷◌, ◌++◌, append_assoc, append-nil}
use lib.ListN.{length, get_or, take, set, length-append}
use lib.Seq.{length-take-le, get_or-take, take-suc, take_all}
use Rattle.laws.specs.Memory.{put}
use Rattle.laws.proofs.PutLaws.{put_none, put_length, put_next}
use Rattle.fields.specs.Field.{field_of}
use Rattle.sheet.specs.Text.{line_of}
use Rattle.sheet.proofs.LineLaws.{field_length, field_next, newline_next}
use Rattle.printing.specs.Text.{fields_of}

fields_snoc : (xs : List ℕ) (y : ℕ) → fields_of (xs ++ (y ∷ [])) ≡ fields_of xs ++ field_of y
unfolding fields_of
fields_snoc [] y = append-nil (field_of y)
fields_snoc (x ∷ xs) y = rw (fields_snoc xs y) (sym (append_assoc (field_of x) (fields_of xs) (field_of y)))

pub fields_length : (xs : List ℕ) → length (fields_of xs) ≡ 5 * length xs
unfolding fields_of
fields_length [] = refl
fields_length (x ∷ xs) = rw (length-append, field_length, fields_length xs) (omega arith)

-- A line is its fields and one newline.
pub line_fields : (xs : List ℕ) → line_of xs ≡ fields_of xs ++ (10 ∷ [])
unfolding line_of fields_of
line_fields [] = refl
line_fields (x ∷ xs) = rw (line_fields xs) (sym (append_assoc (field_of x) (fields_of xs) (10 ∷ [])))

-- A loop that puts the first n of some cells as fields, one behind the other: one more, its length, after the last, before the first.
module _ (m cells m' : List ℕ) (at n t : ℕ) (e : m' ≡ put m at (fields_of (take t (take n cells)))) (long : n ≤ length cells)
    (fits : at + 5 * n ≤ length m) where
  size : length (take n cells) ≡ n
  size = length-take-le n cells long

  front_length : t ≤ n → length (fields_of (take t (take n cells))) ≡ 5 * t
  front_length l = fields_length (take t (take n cells)) ∙ ap (λ (k : ℕ). 5 * k) (length-take-le t (take n cells) (omega (arith, size)))

  pub fields_more : (m'' : List ℕ) → t < n → m'' ≡ put m' (at + 5 * t) (field_of (get_or cells t 0))
      → m'' ≡ put m at (fields_of (take (t + 1) (take n cells)))
  fields_more m'' l g =
      let there : t < length (take n cells) = omega (arith, size) in
      rw (add-one, take-suc (take n cells) t 0, fields_snoc (take t (take n cells)), get_or-take n cells t 0)
      (put_next m m' m'' (fields_of (take t (take n cells))) (field_of (get_or cells t 0)) at (at + 5 * t) e g
      (ap (λ (k : ℕ). at + k) (front_length (omega arith))) (rw field_length (omega arith)))

  pub fields_keep : t ≤ n → length m' ≡ length m
  fields_keep l = ap length e ∙ put_length m (fields_of (take t (take n cells))) at (omega (arith, front_length l))

  pub fields_end : n ≤ t → m' ≡ put m at (fields_of (take n cells))
  fields_end l = rw (take_all t (take n cells) (omega (arith, size))) at e

pub fields_start : (m cells : List ℕ) (at : ℕ) → m ≡ put m at (fields_of (take 0 cells))
unfolding fields_of
fields_start m cells at = put_none m at

-- A line of two fields and a list of fields, put piece by piece.
pub route_line : (m m₁ m₂ m₃ xs : List ℕ) (at a b n : ℕ) → m₁ ≡ put m at (field_of a) → m₂ ≡ put m₁ (at + 5) (field_of b)
    → m₃ ≡ put m₂ (at + 10) (fields_of xs) → length xs ≡ n → at + 5 * n + 11 ≤ length m
    → set m₃ (at + 10 + 5 * n) 10 ≡ put m at (line_of (a ∷ b ∷ xs))
unfolding fields_of
route_line m m₁ m₂ m₃ xs at a b n e₁ e₂ e₃ s l =
    let size : length (fields_of xs) ≡ 5 * n = fields_length xs ∙ ap (λ (k : ℕ). 5 * k) s in
    let two : m₂ ≡ put m at (field_of a ++ field_of b) =
    field_next m m₁ m₂ (field_of a) at (at + 5) b e₁ e₂ (rw field_length) (omega arith)
    in
    let both : length (field_of a ++ field_of b) ≡ 10 = length-append (field_of a) (field_of b) ∙ rw (field_length a, field_length b) in
    let three : m₃ ≡ put m at ((field_of a ++ field_of b) ++ fields_of xs) =
    put_next m m₂ m₃ (field_of a ++ field_of b) (fields_of xs) at (at + 10) two e₃ (rw both) (omega arith)
    in
    let whole : length ((field_of a ++ field_of b) ++ fields_of xs) ≡ 10 + 5 * n =
    length-append (field_of a ++ field_of b) (fields_of xs) ∙ omega arith
    in
    newline_next m m₃ ((field_of a ++ field_of b) ++ fields_of xs) at (at + 10 + 5 * n) three (omega arith) (omega arith)
    ∙ ap (λ (xs : List ℕ). put m at (xs ++ (10 ∷ []))) (append_assoc (field_of a) (field_of b) (fields_of xs))
    ∙ ap (put m at) (sym (line_fields (a ∷ b ∷ xs)))
