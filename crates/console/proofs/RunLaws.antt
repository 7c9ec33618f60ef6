-- What a program that reads its input, and writes a text for it, writes.
use Rattle.std.proofs.Common.{◌≡◌, ℕ, ◌<◌, ◌≤◌, List, [], ◌++◌, Option, None, Some, Result, Ok, Err, IfSome, arith, length, take, sym, ap, ◌∙◌, inl, inr, subst, append-nil, take_all, length-take-le}
use Rattle.std.proofs.Math.Nat.{eq-or-lt_of_le}
use Rattle.std.proofs.Math.Seq.{take-append_seam}
use Rattle.std.specs.Io.KnownBytes.{Appends}
use Rattle.std.specs.Prelude.{⊤}
use Rattle.console.specs.declared.Failed.{Failed}
use Rattle.console.specs.Within.{InputWithin}
use Rattle.console.specs.Moved.{InputTaken, OnWritten, OutputPut}
use Rattle.console.specs.Told.{Tells}
use denote.Ref.{Bor}
use denote.Param.Members.{Once}

-- A front that is not longer than the room is all that there is room for, where it fills the room or nothing is behind it.
front_is : (room : ℕ) (front all ys : List ℕ) → all ≡ front ++ ys → length front ≤ room → (length front < room → ys ≡ []) → front ≡ take room all
front_is room front all ys e within ends =
    elim (eq-or-lt_of_le within) [
      | inl full ↦ sym (take-append_seam front ys) ∙ ap (λ k. take k (front ++ ys)) full ∙ ap (take room) (sym e)
      | inr less ↦
          let whole : all ≡ front = e ∙ ap (λ l. front ++ l) (ends less) ∙ append-nil front in
          sym (take_all room front within) ∙ ap (take room) (sym whole)
    ]

-- What was read into a memory is the known input, as far as there is room.
pub read_front : (n : ℕ) (old new : Option (List ℕ)) (xs : List ℕ) → InputWithin (Ok n) xs → InputTaken old new (Ok n) xs
    → IfSome old (λ all. take n xs ≡ take (length xs) all)
unfolding InputTaken
read_front n None new xs within taken = tt
read_front n (Some all) None xs within taken = absurd taken.0
read_front n (Some all) (Some ys) xs within taken =
    let size = length-take-le n xs within.0 in
    front_is (length xs) (take n xs) all ys taken.0 (omega (arith, size)) (λ l. taken.1 (omega (arith, size)))

-- What holds of what was read holds of the known input, as far as there is room.
pub read_known : (P : List ℕ → Type 0) (room n : ℕ) (old new : Option (List ℕ)) (xs : List ℕ)
    → length xs ≡ room → InputWithin (Ok n) xs → InputTaken old new (Ok n) xs → P (take n xs) → IfSome old (λ all. P (take room all))
read_known P room n None new xs long within taken holds = tt
read_known P room n (Some all) new xs long within taken holds =
    subst P (read_front n (Some all) new xs within taken ∙ ap (λ k. take k all) long) holds

-- So what is told of what was read is told of the known input.
pub read_tells : {F : Type 0} (g : Once F (Bor (List ℕ) × Unit {0}) (Result (Bor (List ℕ)) (Bor (List ℕ)))) (f : F)
    (P : Result (Bor (List ℕ)) (Bor (List ℕ)) → Type 0) (room n : ℕ) (old new : Option (List ℕ)) (xs : List ℕ) (shown : Bor (List ℕ))
    (told : Result (Bor (List ℕ)) (Bor (List ℕ))) → length xs ≡ room → InputWithin (Ok n) xs → InputTaken old new (Ok n) xs
    → shown.now ≡ take n xs → g.post f (shown, tt) told → P told → IfSome old (λ all. Tells g f (take room all) P)
read_tells g f P room n old new xs shown told long within taken shows met holds =
    read_known (λ text. Tells g f text P) room n old new xs long within taken
    (record { shown = shown; told = told; shows = shows; met = met; holds = holds })

-- What is said of a text that was written.
pub on_written : (P : Type 0) (puts put : Option (List ℕ)) (xs : List ℕ) (y : Result ⊤ Failed) → OutputPut puts put y xs → (Appends puts put xs → P)
    → OnWritten y P
unfolding OutputPut
on_written P puts put xs (Ok u) puts_it f = f puts_it
on_written P puts put xs (Err e) puts_it f = tt
