-- Windows: two memories that are the same but for one block at a place. A memory with itself says what can be read there; a memory with
-- another says what putting the other's block there comes to.
use Prim.Native.Nat.{ℕ, ◌+◌, ◌<◌}
use native.Mathlib.Omega.{arith}
use mathlib.Core.Path.{◌≡◌, refl, sym, ◌∙◌, ap}
use mathlib.Core.List.{List, [], ◌++◌, append_assoc, append-nil}
use lib.ListN.{length, take, drop, get_or, length-append, get_or-append}
use lib.Seq.{take_at, drop_at, get_or-append-add, drop-drop}
use Rattle.laws.specs.Memory.{put, part}

-- Memory m has block xs at place p, and m' is the same with block ys.
pub record Window (p : ℕ) (m m' xs ys : List ℕ) : Type 0 where
  pub before : List ℕ
  pub after : List ℕ
  pub old : m ≡ before ++ (xs ++ after)
  pub new : m' ≡ before ++ (ys ++ after)
  pub size : length before ≡ p

-- Block xs stands at place p of memory m.
abbrev pub StandsAt : ℕ → List ℕ → List ℕ → Type 0
StandsAt p m xs = Window p m m xs xs

-- A block is a window on itself.
pub window_whole : (xs ys : List ℕ) → Window 0 xs ys xs ys
window_whole xs ys = record { before = []; after = []; old = sym (append-nil xs); new = sym (append-nil ys); size = refl }

-- A window with something behind both memories, and with something in front of them.
pub window_front : {p : ℕ} {m m' xs ys : List ℕ} (zs : List ℕ) → Window p m m' xs ys → Window p (m ++ zs) (m' ++ zs) xs ys
window_front {xs = xs} {ys = ys} zs w =
    record {
      before = w.before;
      after = w.after ++ zs;
      old = rw w.old (append_assoc w.before (xs ++ w.after) zs
          ∙ ap (λ (xs : List ℕ). w.before ++ xs) (append_assoc xs w.after zs));
      new = rw w.new (append_assoc w.before (ys ++ w.after) zs
          ∙ ap (λ (xs : List ℕ). w.before ++ xs) (append_assoc ys w.after zs));
      size = w.size;
    }

pub window_behind : {p : ℕ} {m m' xs ys : List ℕ} (zs : List ℕ) (n p' : ℕ) → length zs ≡ n → n + p ≡ p' → Window p m m' xs ys →
    Window p' (zs ++ m) (zs ++ m') xs ys
window_behind {xs = xs} {ys = ys} zs n p' s e w =
    record {
      before = zs ++ w.before;
      after = w.after;
      old = ap (λ (xs : List ℕ). zs ++ xs) w.old ∙ sym (append_assoc zs w.before (xs ++ w.after));
      new = ap (λ (xs : List ℕ). zs ++ xs) w.new ∙ sym (append_assoc zs w.before (ys ++ w.after));
      size = length-append zs w.before ∙ omega (arith, w.size);
    }

-- A window in a window.
pub window_inside : {p p' : ℕ} {m m' xs ys zs zs' : List ℕ} (n : ℕ) → p + p' ≡ n → Window p m m' xs ys → Window p' xs ys zs zs' →
    Window n m m' zs zs'
window_inside {zs = zs} {zs' = zs'} n e w v =
    record {
      before = w.before ++ v.before;
      after = v.after ++ w.after;
      old = w.old ∙ ap (λ (xs : List ℕ). w.before ++ (xs ++ w.after)) v.old ∙ nested w.before v.before zs v.after w.after;
      new = w.new ∙ ap (λ (xs : List ℕ). w.before ++ (xs ++ w.after)) v.new
          ∙ nested w.before v.before zs' v.after w.after;
      size = length-append w.before v.before ∙ omega (arith, w.size, v.size);
    }
  where
    nested : (xs ys zs xs' ys' : List ℕ) → xs ++ ((ys ++ (zs ++ xs')) ++ ys') ≡ (xs ++ ys) ++ (zs ++ (xs' ++ ys'))
    nested xs ys zs xs' ys' = simp append_assoc

-- The old block alone.
pub window_old : {p : ℕ} {m m' xs ys : List ℕ} → Window p m m' xs ys → StandsAt p m xs
window_old w = record { before = w.before; after = w.after; old = w.old; new = w.old; size = w.size }

-- A part of a memory is the block that stands there.
pub window_part : {p : ℕ} {m m' xs ys : List ℕ} (n : ℕ) → length xs ≡ n → Window p m m' xs ys → part m p n ≡ xs
unfolding part
window_part {p = p} {xs = xs} n l w =
    rw w.old
    (ap (take n) (drop_at w.before (xs ++ w.after) p w.size) ∙ take_at xs w.after n l)

-- A number of a memory is the number of the block that stands there.
pub window_number : {p : ℕ} {m m' xs ys : List ℕ} (k p' : ℕ) → k < length xs → p + k ≡ p' → Window p m m' xs ys → get_or m p' 0 ≡ get_or xs k 0
window_number {p = p} {xs = xs} k p' l e w =
    let place : p' ≡ length w.before + k = omega (arith, w.size) in
    rw (w.old, place)
    (get_or-append-add w.before (xs ++ w.after) k 0 ∙ get_or-append xs w.after 0 k l)

-- Putting the new block there.
pub window_put : {p : ℕ} {m m' xs ys : List ℕ} → length xs ≡ length ys → Window p m m' xs ys → put m p ys ≡ m'
unfolding put
window_put {p = p} {m = m} {xs = xs} {ys = ys} l w =
    let front : take p m ≡ w.before = rw w.old (take_at w.before (xs ++ w.after) p w.size) in
    let rest : drop p m ≡ xs ++ w.after = rw w.old (drop_at w.before (xs ++ w.after) p w.size) in
    let last : drop (p + length ys) m ≡ w.after =
    sym (drop-drop (length ys) p m) ∙ ap (drop (length ys)) rest ∙ drop_at xs w.after (length ys) l
    in
    rw (front, last) (sym w.new)
