-- The claims about the boundary; `proofs/Theorems.antt` inhabits the record.
use Rattle.std.specs.Prelude.{ℕ, ◌/◌, ◌%◌, ◌≤◌, ◌<◌, ◌≡◌, List, length}
use Rattle.laws.specs.Memory.{put}
use Rattle.laws.specs.Verdict.{value, refusal}
use Rattle.floor.specs.declared.Floor.{Floor}
use Rattle.abi.specs.Word.{done, word_of}
use Rattle.abi.specs.Record.{floor_of, numbers_of, count_up, numbered}

-- What a caller reads off a word: the low byte, the next byte, and the rest.
pub record Reads (w low second rest : ℕ) : Type 0 where
  pub low_byte : w % 256 ≡ low
  pub second_byte : w / 256 % 256 ≡ second
  pub from_bit_16 : w / 65536 ≡ rest

pub record Claims : Type 0 where
  -- A word is read as it was packed: what is done, with its case and its number up to 2^48 − 1.
  pub done_read : (k n : ℕ) → k < 256 → n ≤ 281474976710655 → Reads (word_of (value (done k n))) 0 k n
  -- What is refused, with its number and its place up to 2^48 − 1.
  pub refusal_read : (k p : ℕ) → k < 256 → p ≤ 281474976710655 → Reads (word_of (refusal k p)) 1 k p
  -- A larger place is read as 2^48 − 1.
  pub largest_read : (k p : ℕ) → k < 256 → 281474976710655 < p → Reads (word_of (refusal k p)) 1 k 281474976710655
  -- Every word is one of 64 bits whose low byte says whether the call is done, also where its case or number has no room.
  pub done_low : (k n : ℕ) → (word_of (value (done k n)) % 256 ≡ 0) × (word_of (value (done k n)) < 18446744073709551616)
  pub refusal_low : (k p : ℕ) → (word_of (refusal k p) % 256 ≡ 1) × (word_of (refusal k p) < 18446744073709551616)
  -- The floor record that is read back from its numbers is the one that was stored, whatever memory it was stored in.
  pub record_returns : (f : Floor) (old : List ℕ) → length f.starts ≡ 8 → length f.counts ≡ 8 → length f.docks ≡ 32
      → floor_of (put old 0 (numbers_of f)) ≡ f
  -- Each field has its place, written and read: six numbers, eight starts from the 7th on, eight dock counts from the 15th, the docks from
  -- the 23rd.
  pub numbers_placed : numbers_of numbered ≡ count_up 1 54
  pub floor_placed : floor_of (count_up 1 54) ≡ numbered
