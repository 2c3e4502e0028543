-- Whole numbers as bytes, in so many bytes.
use Rattle.std.specs.Prelude.{ℕ, ◌≤◌, ℤ, List}
use Rattle.std.specs.Int.{bytes_high_first, cast_unsigned, w128}

-- a number has 1 to 16 bytes
pub record IsWidth (w : ℕ) : Type 0 where
  pub some : 1 ≤ w
  pub few : w ≤ 16

-- the low bytes of the number, the highest of them first; a negative one stands in two's complement
abbrev pub number_bytes : ℕ → ℤ → List ℕ
number_bytes w n = bytes_high_first w (cast_unsigned w128 n)
