-- The bytes of a number.
-- byte_at w j   the j-th byte of the number w, the lowest first
use Rattle.std.proofs.Common.{◌≡◌, ℕ, zero, suc, ◌+◌, ◌*◌, ◌/◌, ◌%◌, ◌^◌, ◌<◌, List, sym, ap, ◌∙◌, pow-suc, arith}
use Rattle.std.proofs.lemmas.Nat.{shr-shr}
use Rattle.vector.specs.Lanes.{lane, lanes_number}

abbrev pub byte_at : ℕ → ℕ → ℕ
byte_at w j = w / 2 ^ (8 * j) % 256

-- what holds at each of eight places holds below eight
pub by_eight : (P : ℕ → Type 0) → P 0 → P 1 → P 2 → P 3 → P 4 → P 5 → P 6 → P 7 → (j : ℕ) → j < 8 → P j
by_eight P a b c d e f g h zero lt = a
by_eight P a b c d e f g h (suc zero) lt = b
by_eight P a b c d e f g h (suc (suc zero)) lt = c
by_eight P a b c d e f g h (suc (suc (suc zero))) lt = d
by_eight P a b c d e f g h (suc (suc (suc (suc zero)))) lt = e
by_eight P a b c d e f g h (suc (suc (suc (suc (suc zero))))) lt = f
by_eight P a b c d e f g h (suc (suc (suc (suc (suc (suc zero)))))) lt = g
by_eight P a b c d e f g h (suc (suc (suc (suc (suc (suc (suc zero))))))) lt = h
by_eight P a b c d e f g h (suc (suc (suc (suc (suc (suc (suc (suc j)))))))) lt = absurd (omega arith)

pub byte_next : (w j : ℕ) → byte_at w (j + 1) ≡ byte_at (w / 256) j
byte_next w j =
    let e : 8 * (j + 1) ≡ 8 + 8 * j = omega arith in
    rw e (ap (λ x. x % 256) (sym (shr-shr w 8 (8 * j))))

-- a word is the number that its bytes make
pub number_of_bytes : (n w : ℕ) (xs : List ℕ) (p : ℕ) → w < 256 ^ n → ((j : ℕ) → j < n → lane xs (p + j) ≡ byte_at w j) → lanes_number n xs p ≡ w
unfolding lanes_number
number_of_bytes zero w xs p lt h = omega arith
number_of_bytes (suc n) w xs p lt h =
    let start : p + 0 ≡ p = omega arith in
    let first : lane xs p ≡ w % 256 = rw start at (h 0 (omega arith)) ∙ omega arith in
    let small : w / 256 < 256 ^ n = omega (arith, pow-suc 256 n) in
    let rest = number_of_bytes n (w / 256) xs (p + 1) small
    (λ j l. let e : p + 1 + j ≡ p + (j + 1) = omega arith in ap (lane xs) e ∙ h (j + 1) (omega arith) ∙ byte_next w j) in
    omega (arith, first, rest)

-- the bytes of the number that some lanes make are these lanes
pub byte_of_number : (n : ℕ) (xs : List ℕ) (p : ℕ) → ((i : ℕ) → lane xs i < 256) → (j : ℕ) → j < n → byte_at (lanes_number n xs p) j ≡ lane xs (p + j)
unfolding lanes_number
byte_of_number zero xs p b j lt = absurd (omega arith)
byte_of_number (suc n) xs p b zero lt =
    let e : p + 0 ≡ p = omega arith in
    rw e (omega (arith, b p))
byte_of_number (suc n) xs p b (suc j) lt =
    let one : suc j ≡ j + 1 = omega arith in
    let e : p + 1 + j ≡ p + suc j = omega arith in
    let m = lanes_number n xs (p + 1) in
    let shifted : (lane xs p + 256 * m) / 256 ≡ m = omega (arith, b p) in
    ap (byte_at (lane xs p + 256 * m)) one ∙ byte_next (lane xs p + 256 * m) j ∙ ap (λ x. byte_at x j) shifted ∙ byte_of_number n xs (p + 1) b j (omega arith) ∙ ap (lane xs) e
