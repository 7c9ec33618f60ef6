-- Texts put into a memory, one behind the other or in front of it.
use Prim.Native.Nat.{ℕ, ◌+◌, ◌-◌, ◌*◌, ◌≤◌}
use native.Mathlib.Omega.{arith}
use native.Mathlib.Nat.{zero-add}
use mathlib.Core.Path.{◌≡◌, sym, ap, ap₂, ◌∙◌}
use mathlib.Core.List.{List, [], ◌++◌, append-nil}
use lib.ListN.{length, take, drop, length-append, length-take, length-drop}
use lib.Seq.{take_all, drop-drop, drop-length, length-take-le}
use Rattle.io.specs.Counts.{IsPrefixLen}
use Rattle.laws.specs.Memory.{put}
use Rattle.laws.proofs.PutLaws.{put_front, put_length, put_next}
use Rattle.printing.specs.Put.{TextPut}
use Rattle.reporting.specs.Put.{PutAt}

-- A text in front of the part of a memory from a place on stands at that place.
pub suffix_put : (m xs ys : List ℕ) (n : ℕ) → n ≤ length m → ys ≡ put (take (length m - n) (drop n m)) 0 xs
    → take n m ++ (ys ++ drop (length m - n) (drop n m)) ≡ put m n xs
unfolding put
suffix_put m xs ys n l e =
    let size : length (drop n m) ≡ length m - n = length-drop n m in
    let whole : take (length m - n) (drop n m) ≡ drop n m = take_all (length m - n) (drop n m) (omega arith) in
    let none : drop (length m - n) (drop n m) ≡ [] = ap (λ (k : ℕ). drop k (drop n m)) (sym size) ∙ drop-length (drop n m) in
    let behind : ys ≡ xs ++ drop (n + length xs) m =
    e
    ∙ ap (λ (ys : List ℕ). xs ++ drop (0 + length xs) ys) whole
    ∙ ap (λ (k : ℕ). xs ++ drop k (drop n m)) (zero-add (length xs))
    ∙ ap (λ (ys : List ℕ). xs ++ ys) (drop-drop (length xs) n m)
    in
    ap₂ (λ (xs ys : List ℕ). take n m ++ (xs ++ ys)) behind none
    ∙ ap (λ (xs : List ℕ). take n m ++ xs) (append-nil (xs ++ drop (n + length xs) m))

-- Two texts, the second put into the rest of the memory.
pub both_put : (xs zs old mid ys new : List ℕ) (n k : ℕ) → PutAt xs old 0 mid n → TextPut zs (take (length mid - n) (drop n mid)) ys k
    → new ≡ take n mid ++ (ys ++ drop (length mid - n) (drop n mid)) → length xs + length zs ≤ length old
    → TextPut (xs ++ zs) old new (n + k)
both_put xs zs old mid ys new n k p t e l =
    let long : length mid ≡ length old = ap length p.bytes ∙ put_length old xs 0 (omega arith) in
    let placed : new ≡ put mid n zs = e ∙ suffix_put mid zs ys n (omega (arith, p.behind)) t.bytes in
    record {
      bytes = put_next old mid new xs zs 0 n p.bytes placed (sym p.behind) (omega (arith, p.behind));
      size = omega (arith, p.behind, t.size, length-append xs zs);
    }

-- A text that was put in front of a memory is counted there.
pub counted : (text old new : List ℕ) (n : ℕ) → TextPut text old new n → length text ≤ length old → IsPrefixLen n new × (take n new ≡ text)
counted text old new n p fits =
    let f = put_front old new text n p.bytes p.size fits in
    ((f.0, sym (length-take-le n new f.0)), f.1)

-- The numbers of at most 502 lines are at most 1,004.
pub numbers_few : (t : ℕ) (xs : List ℕ) → t ≤ 502 → length (take (2 * t) xs) ≤ 1004
numbers_few t xs l = omega (arith, length-take (2 * t) xs)
