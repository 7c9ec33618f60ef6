-- The generator of order 3 (document 02, slip 1): a linear congruential one over numbers of 32 bits.
use Rattle.std.specs.Prelude.{ℕ, ◌+◌, ◌*◌, ◌/◌, ◌%◌}

-- The next number: the last × 1664525 + 1013904223, modulo 2^32.
unfoldable pub next_number : ℕ → ℕ
next_number x = (x * 1664525 + 1013904223) % 4294967296

-- What is drawn from the generator's next number: that number divided by 65536, rounded down.
unfoldable pub drawn_by : ℕ → ℕ
drawn_by x = next_number x / 65536
