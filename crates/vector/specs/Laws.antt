-- Lemmas behind the laws of halves and vectors. They stand here and not in proofs/ since the impls in src/ name them.
use Rattle.std.specs.Prelude.{◌≡◌, ℕ, zero, suc, ◌-◌, ◌<◌, ◌≤◌, List, ◌++◌, length, refl}
use Rattle.std.specs.Int.{w64, bytes_low_first, to_le_bytes}
use Rattle.std.proofs.Common.{⊎_elim, arith}
use Rattle.std.proofs.lemmas.List.{get_or_append_left, get_or-append_right}
use Rattle.std.proofs.lemmas.Bool.{cases_lt}
use Rattle.vector.specs.Lanes.{lane}
use Rattle.vector.specs.Words.{word_lanes}

-- two rows of bytes are a row of bytes
pub bytes_join : (a b : List ℕ) → ((i : ℕ) → lane a i < 256) → ((i : ℕ) → lane b i < 256) → (i : ℕ) → lane (a ++ b) i < 256
bytes_join a b p q i =
    ⊎_elim
    (λ (l : i < length a). rw (get_or_append_left a b 0 i l) (p i))
    (λ (r : length a ≤ i). rw (get_or-append_right a b (length a) i 0 refl r) (q (i - length a)))
    (cases_lt i (length a))

low_bytes : (from n w i : ℕ) → lane (bytes_low_first from n w) i < 256
low_bytes from zero w i = omega arith
low_bytes zero (suc n) w zero = omega arith
low_bytes (suc from) (suc n) w zero = omega arith
low_bytes from (suc n) w (suc i) = low_bytes (suc from) n w i

-- two words are sixteen lanes
pub words_long : (low high : ℕ) → length (word_lanes low high) ≡ 16
unfolding word_lanes
words_long low high = refl

-- each a byte
pub words_bytes : (low high i : ℕ) → lane (word_lanes low high) i < 256
unfolding word_lanes
words_bytes low high i = bytes_join (to_le_bytes w64 low) (to_le_bytes w64 high) (low_bytes 0 8 low) (low_bytes 0 8 high) i
