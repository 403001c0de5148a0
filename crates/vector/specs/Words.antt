-- The lanes that two words of 64 bits hold.
-- word_lanes low high   the eight bytes of low, then those of high, each the lowest first
-- held h                the lanes of the word half h
use Rattle.std.specs.Prelude.{ℕ, List, ◌++◌}
use Rattle.std.specs.Int.{w64, to_le_bytes}
use Rattle.vector.specs.declared.word.WordHalf.{WordHalf}

unfoldable pub word_lanes : ℕ → ℕ → List ℕ
word_lanes low high = to_le_bytes w64 low ++ to_le_bytes w64 high

abbrev pub held : WordHalf → List ℕ
held h = word_lanes h.low h.high
