-- A text that was put in front of a memory.
use Prim.Native.Nat.{ℕ, ◌<◌}
use native.Mathlib.Omega.{arith}
use native.Mathlib.Nat.{zero-add}
use mathlib.Core.Path.{◌≡◌, refl, ◌∙◌, ap}
use mathlib.Core.List.{List, [], ◌∷◌, ◌++◌, append-nil}
use lib.ListN.{length, get_or, drop}
use lib.Seq.{drop-length}
use Rattle.laws.specs.Memory.{put}
use Rattle.reporting.specs.Put.{PutAt}

-- The first byte of a text in front of a memory.
pub first_byte : {text old new : List ℕ} {n : ℕ} → PutAt text old 0 new n → n ≡ 1 → get_or new 0 0 ≡ get_or text 0 0
unfolding put
first_byte {text} {old} {new} p e = ap (λ (xs : List ℕ). get_or xs 0 0) p.bytes ∙ go text (omega (arith, p.behind))
  where
    go : (ys : List ℕ) → 0 < length ys → get_or (put old 0 ys) 0 0 ≡ get_or ys 0 0
    go [] l = absurd (omega arith)
    go (x ∷ xs) l = refl

-- A text as long as the memory is the memory.
pub whole_put : {text old new : List ℕ} {n : ℕ} → PutAt text old 0 new n → length text ≡ length old → new ≡ text
unfolding put
whole_put {text} {old} p e =
    p.bytes
    ∙ ap (λ (k : ℕ). text ++ drop k old) (zero-add (length text) ∙ e)
    ∙ ap (λ (xs : List ℕ). text ++ xs) (drop-length old)
    ∙ append-nil text

-- One byte that is another by an equation.
pub byte_put : {byte byte' : ℕ} {old new : List ℕ} {at n : ℕ} → byte ≡ byte' → PutAt (byte ∷ []) old at new n →
    PutAt (byte' ∷ []) old at new n
byte_put e p = rw (← e) p
