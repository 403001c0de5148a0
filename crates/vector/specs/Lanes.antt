-- What the lane operations mean, over lists of lanes, lane 0 first. n is the number of lanes.
-- lane xs i             lane i of xs; 0 past the last
-- row n f               the lanes f 0, f 1, .. f (n - 1)
-- splatted n b          b in every lane
-- loaded n s p          the bytes of s from the place p on; 0 past its end
-- all_zero xs           whether all lanes are 0
-- anded n xs ys         lane by lane, the bits that both have
-- ored n xs ys          lane by lane, the bits that one of them has
-- compared n xs ys      255 where the lanes are equal, and 0 elsewhere
-- shifted_right_4 n xs  each lane divided by 16
-- shifted_in k n xs ys  the last k lanes of ys, then the first of xs
-- shuffled n xs js      for each lane of js the lane of xs that it names among its own sixteen
-- lanes_number n xs p   the n lanes from p on as one number, low byte first
-- lane64 xs k           the k-th eight lanes as one number
use Rattle.std.specs.Prelude.{ℕ, zero, suc, ◌+◌, ◌-◌, ◌*◌, ◌/◌, Bool, true, ◌&&◌, List, [], ◌∷◌, map, ◌==◌, bit_and, bit_or, nat_lt, if◌then◌else◌, slice_index}
use Rattle.std.specs.List.{range_with_len}

abbrev pub lane : List ℕ → ℕ → ℕ
lane xs i = slice_index xs i

unfoldable pub row : ℕ → (ℕ → ℕ) → List ℕ
row n f = map f (range_with_len 0 n)

abbrev pub splatted : ℕ → ℕ → List ℕ
splatted n b = row n (λ _. b)

abbrev pub loaded : ℕ → List ℕ → ℕ → List ℕ
loaded n s p = row n (λ i. lane s (p + i))

abbrev pub all_zero : List ℕ → Bool
all_zero [] = true
all_zero (x ∷ xs) = x == 0 && all_zero xs

abbrev pub anded : ℕ → List ℕ → List ℕ → List ℕ
anded n xs ys = row n (λ i. bit_and (lane xs i) (lane ys i))

abbrev pub ored : ℕ → List ℕ → List ℕ → List ℕ
ored n xs ys = row n (λ i. bit_or (lane xs i) (lane ys i))

abbrev pub compared : ℕ → List ℕ → List ℕ → List ℕ
compared n xs ys = row n (λ i. if lane xs i == lane ys i then 255 else 0)

abbrev pub shifted_right_4 : ℕ → List ℕ → List ℕ
shifted_right_4 n xs = row n (λ i. lane xs i / 16)

-- where k passes n, ys whole
abbrev pub shifted_in : ℕ → ℕ → List ℕ → List ℕ → List ℕ
shifted_in k n xs ys = row n (λ i. if nat_lt i k then lane ys (n - k + i) else lane xs (i - k))

-- an index above 15 gives 0
abbrev pub shuffled : ℕ → List ℕ → List ℕ → List ℕ
shuffled n xs js = row n (λ i. if nat_lt (lane js i) 16 then lane xs (i / 16 * 16 + lane js i) else 0)

unfoldable pub lanes_number : ℕ → List ℕ → ℕ → ℕ
lanes_number zero xs p = 0
lanes_number (suc n) xs p = lane xs p + 256 * lanes_number n xs (p + 1)

abbrev pub lane64 : List ℕ → ℕ → ℕ
lane64 xs k = lanes_number 8 xs (8 * k)
