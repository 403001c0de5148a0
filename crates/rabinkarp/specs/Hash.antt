-- weighed bs         the sum of b_i × 2^(m − 1 − i) over the bytes b_0 to b_(m − 1)
-- hash_of bs         the hash of bytes: that sum modulo 2^64
-- leading m          2^(m − 1) modulo 2^64, by which the first of m bytes counts; 1 for m = 0
-- minus a b          a − b modulo 2^64
-- moved h w old new  the hash one byte further on: (h − old × w) × 2 + new modulo 2^64
-- window t m s       the m bytes of the text t from the place s on
-- Rolling            for every text, every length above 0 and every window that has a next one: moving on from its hash gives the
--                    hash of the next one
use Rattle.std.specs.Prelude.{◌≡◌, ℕ, ◌+◌, ◌-◌, ◌*◌, ◌%◌, ◌^◌, ◌<◌, List, [], ◌∷◌, length, take, drop, slice_index}

abbrev pub weighed : List ℕ → ℕ
weighed [] = 0
weighed (b ∷ bs) = b * 2 ^ length bs + weighed bs

abbrev pub hash_of : List ℕ → ℕ
hash_of bs = weighed bs % 2 ^ 64

abbrev pub leading : ℕ → ℕ
leading m = 2 ^ (m - 1) % 2 ^ 64

-- a number is taken away by adding what it lacks of 2^64
abbrev pub minus : ℕ → ℕ → ℕ
minus a b = (a + (2 ^ 64 - b % 2 ^ 64)) % 2 ^ 64

abbrev pub moved : ℕ → ℕ → ℕ → ℕ → ℕ
moved h w old new = (minus h (old * w) * 2 + new) % 2 ^ 64

abbrev pub window : List ℕ → ℕ → ℕ → List ℕ
window t m s = take m (drop s t)

abbrev pub Rolling : Type 0
Rolling =
    (t : List ℕ) (m s : ℕ) → 0 < m → s + m < length t → moved (hash_of (window t m s)) (leading m) (slice_index t s) (slice_index t (s + m)) ≡ hash_of (window t m (s + 1))
