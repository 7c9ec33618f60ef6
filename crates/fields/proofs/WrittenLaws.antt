-- The form of a field without its number: what the tests of the code answer, byte by byte, and what they mean.
use Prim.Native.Nat.{ℕ, ◌-◌, ◌≤◌, ◌<◌}
use native.Mathlib.Omega.{arith}
use mathlib.Core.Path.{◌≡◌, refl, sym, ◌∙◌, ap}
use mathlib.Core.Bool.{Bool, true, false, ◌&&◌, and-eq-true_iff}
use mathlib.Core.Logic.{◌⊎◌, inl, inr}
use mathlib.Core.List.{List, [], ◌∷◌}
use borrow.Author.Tests.{eq-eqb, ne_eqb, le-leb, leb-true}
use lib.ListN.{length, get_or, take, drop}
use lib.Seq.{take_all}
use borrow.Author.Rules.{rules}
use Rattle.std.specs.List.{list_all}
use Rattle.std.specs.Char.{is_ascii_digit}
use Rattle.floor.specs.Checks.{within}
use Rattle.laws.proofs.Tests.{eq_or_ne}
use Rattle.fields.specs.Field.{are_digits, is_written}

-- Bytes that are all digits', as `all` tests them.
pub all_digits : (xs : List ℕ) → list_all (within 48 57) xs ≡ are_digits xs
unfolding are_digits
all_digits [] = refl
all_digits (x ∷ xs) = rw (all_digits xs)

-- The bytes behind the first.
abbrev rest_of : List ℕ → List ℕ
rest_of xs = take (length xs - 1) (drop 1 xs)

rest_is : (x : ℕ) (xs : List ℕ) → rest_of (x ∷ xs) ≡ xs
rest_is x xs = take_all (length (x ∷ xs) - 1) xs (omega arith)

-- What the code answers of bytes: of none, of one, and of several by the first of them.
module _ (xs : List ℕ) where
  pub written_none : length xs < 1 → false ≡ is_written xs
  unfolding is_written
  written_none l = go xs l
    where
      go : (xs : List ℕ) → length xs < 1 → false ≡ is_written xs
      go [] l = refl
      go (x ∷ xs) l = absurd (omega arith)

  pub written_last : {r : Bool} → 1 ≤ length xs → length xs < 2 → r ≡ is_ascii_digit (get_or xs 0 0) → r ≡ is_written xs
  unfolding is_written within
  written_last {r} l g e = go xs l g e
    where
      go : (xs : List ℕ) → 1 ≤ length xs → length xs < 2 → r ≡ is_ascii_digit (get_or xs 0 0) → r ≡ is_written xs
      go [] l g e = absurd (omega arith)
      go (x ∷ []) l g e = e
      go (x ∷ y ∷ xs) l g e = absurd (omega arith)

  pub written_space : {r : Bool} → 2 ≤ length xs → get_or xs 0 0 ≡ 32 → r ≡ is_written (rest_of xs) → r ≡ is_written xs
  unfolding is_written
  written_space {r} l s e = go xs l s e
    where
      go : (xs : List ℕ) → 2 ≤ length xs → get_or xs 0 0 ≡ 32 → r ≡ is_written (rest_of xs) → r ≡ is_written xs
      go [] l s e = absurd (omega arith)
      go (x ∷ []) l s e = absurd (omega arith)
      go (x ∷ y ∷ xs) l s e = rw (eq-eqb x 32 s) (e ∙ ap is_written (rest_is x (y ∷ xs)))

  pub written_first : {r s : Bool} → 2 ≤ length xs → (get_or xs 0 0 ≡ 32 → ⊥) → s ≡ within 49 57 (get_or xs 0 0) → s ≡ true
      → r ≡ are_digits (rest_of xs) → r ≡ is_written xs
  unfolding is_written
  written_first {r} {s} l n t h e = go xs l n t e
    where
      go : (xs : List ℕ) → 2 ≤ length xs → (get_or xs 0 0 ≡ 32 → ⊥) → s ≡ within 49 57 (get_or xs 0 0) → r ≡ are_digits (rest_of xs)
          → r ≡ is_written xs
      go [] l n t e = absurd (omega arith)
      go (x ∷ []) l n t e = absurd (omega arith)
      go (x ∷ y ∷ xs) l n t e = rw (ne_eqb x 32 n, ← t, h) (e ∙ ap are_digits (rest_is x (y ∷ xs)))

  pub written_wrong : {s : Bool} → 2 ≤ length xs → (get_or xs 0 0 ≡ 32 → ⊥) → s ≡ within 49 57 (get_or xs 0 0) → s ≡ false
      → s ≡ is_written xs
  unfolding is_written
  written_wrong {s} l n t h = go xs l n t
    where
      go : (xs : List ℕ) → 2 ≤ length xs → (get_or xs 0 0 ≡ 32 → ⊥) → s ≡ within 49 57 (get_or xs 0 0) → s ≡ is_written xs
      go [] l n t = absurd (omega arith)
      go (x ∷ []) l n t = absurd (omega arith)
      go (x ∷ y ∷ xs) l n t = rw (ne_eqb x 32 n, ← t, h) refl

pub ruleset written = (rules, written_none, written_last, written_space, written_first, written_wrong)

-- What the tests mean: a number within two bounds, digits, a space or the first digit.
pub and_so : {x y : Bool} → x ≡ true → y ≡ true → (x && y) ≡ true
and_so {x} {y} h k = (and-eq-true_iff x y).1 (h, k)

pub within_so : {a b x : ℕ} → a ≤ x → x ≤ b → within a b x ≡ true
unfolding within
within_so {a} {b} {x} l g = rw (le-leb a x l, le-leb x b g)

pub within_tells : {a b x : ℕ} → within a b x ≡ true → (a ≤ x) × (x ≤ b)
unfolding within
within_tells h = let s = (and-eq-true_iff _ _).0 h in (leb-true _ _ s.0, leb-true _ _ s.1)

pub digit_so : {byte : ℕ} (xs : List ℕ) → (48 ≤ byte) × (byte ≤ 57) → are_digits xs ≡ true → are_digits (byte ∷ xs) ≡ true
unfolding are_digits
digit_so xs l h = rw (within_so l.0 l.1) h

pub none_so : are_digits [] ≡ true
unfolding are_digits
none_so = refl

pub digit_tells : (byte : ℕ) (xs : List ℕ) → are_digits (byte ∷ xs) ≡ true → ((48 ≤ byte) × (byte ≤ 57)) × (are_digits xs ≡ true)
unfolding are_digits
digit_tells byte xs h = let s = (and-eq-true_iff _ _).0 h in (within_tells s.0, s.1)

-- A byte before others: a space, or the first digit.
after_space : {byte : ℕ} (byte' : ℕ) (xs : List ℕ) → byte ≡ 32 → is_written (byte ∷ byte' ∷ xs) ≡ is_written (byte' ∷ xs)
unfolding is_written
after_space {byte} byte' xs s = rw (eq-eqb byte 32 s)

no_space : {byte : ℕ} (byte' : ℕ) (xs : List ℕ) → (byte ≡ 32 → ⊥) →
    is_written (byte ∷ byte' ∷ xs) ≡ (within 49 57 byte && are_digits (byte' ∷ xs))
unfolding is_written
no_space {byte} byte' xs n = rw (ne_eqb byte 32 n)

pub space_so : {byte : ℕ} (byte' : ℕ) (xs : List ℕ) → byte ≡ 32 → is_written (byte' ∷ xs) ≡ true → is_written (byte ∷ byte' ∷ xs) ≡ true
space_so byte' xs s h = after_space byte' xs s ∙ h

pub first_so : {byte : ℕ} (byte' : ℕ) (xs : List ℕ) → (49 ≤ byte) × (byte ≤ 57) → are_digits (byte' ∷ xs) ≡ true →
    is_written (byte ∷ byte' ∷ xs) ≡ true
first_so byte' xs l h = no_space byte' xs (λ s. omega (arith, l.0, s)) ∙ and_so (within_so l.0 l.1) h

pub last_so : {byte : ℕ} → (48 ≤ byte) × (byte ≤ 57) → is_written (byte ∷ []) ≡ true
unfolding is_written
last_so l = within_so l.0 l.1

pub last_tells : {byte : ℕ} → is_written (byte ∷ []) ≡ true → (48 ≤ byte) × (byte ≤ 57)
unfolding is_written
last_tells h = within_tells h

-- What a right byte before others tells: it is a space and the others are right, or it is the first digit and the others are digits.
abbrev pub WrittenForms : ℕ → ℕ → List ℕ → Type 0
WrittenForms byte byte' xs =
    ((byte ≡ 32) × (is_written (byte' ∷ xs) ≡ true)) ⊎ (((49 ≤ byte) × (byte ≤ 57)) × (are_digits (byte' ∷ xs) ≡ true))

pub written_tells : (byte byte' : ℕ) (xs : List ℕ) → is_written (byte ∷ byte' ∷ xs) ≡ true → WrittenForms byte byte' xs
written_tells byte byte' xs h = go (eq_or_ne byte 32)
  where
    go : (byte ≡ 32) ⊎ (byte ≡ 32 → ⊥) → WrittenForms byte byte' xs
    go (inl s) = inl (s, sym (after_space byte' xs s) ∙ h)
    go (inr n) = let s = (and-eq-true_iff _ _).0 (sym (no_space byte' xs n) ∙ h) in inr (within_tells s.0, s.1)
