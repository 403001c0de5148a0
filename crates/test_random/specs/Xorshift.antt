-- left k x    x combined by exclusive or with x shifted left by k bits, of which 64 are kept
-- right k x   the same with x shifted right
-- stepped x   the state after x
use Rattle.std.specs.Prelude.{ℕ, ◌*◌, ◌/◌, ◌%◌, ◌^◌, bit_xor}

abbrev pub left : ℕ → ℕ → ℕ
left k x = bit_xor x (x * 2 ^ k % 2 ^ 64)

abbrev pub right : ℕ → ℕ → ℕ
right k x = bit_xor x (x / 2 ^ k)

abbrev pub stepped : ℕ → ℕ
stepped x = left 17 (right 7 (left 13 x))
