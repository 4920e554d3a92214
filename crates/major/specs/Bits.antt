-- Groups of bits of a word. No public contract cites this file.
use Rattle.std.specs.Prelude.{ℕ, ◌+◌, ◌*◌, ◌/◌, ◌%◌, ◌^◌}

-- the n bits of a word from bit k on
abbrev pub bits_of : ℕ → ℕ → ℕ → ℕ
bits_of w k n = w / 2 ^ k % 2 ^ n

-- the word without them: the bits behind them move down
abbrev pub cut_of : ℕ → ℕ → ℕ → ℕ
cut_of w k n = w / 2 ^ (k + n) * 2 ^ k + w % 2 ^ k
