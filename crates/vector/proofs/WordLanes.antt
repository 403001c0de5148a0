-- Two words as sixteen lanes, and what operations on whole words do to the lanes.
use lib.Lanes.{number_l, digits_l}
use Rattle.std.specs.Int.{w64, to_le_bytes}
use Rattle.std.specs.Prelude.{◌≡◌, ℕ, ◌+◌, ◌*◌, ◌/◌, ◌%◌, ◌^◌, ◌<◌, ◌≤◌, true, false, cond, ltb, List, [], ◌∷◌, ◌-◌, length, ◌==◌, bit_and, bit_or, nat_eq, nat_lt, refl}
use Rattle.std.proofs.Common.{get_or, sym, ap, ◌∙◌, ⊎_elim, arith, add_comm}
use Rattle.std.proofs.Math.Nat.{zero-div}
use Rattle.std.proofs.lemmas.Nat.{shr-shr, and_shr, and_mod, or_shr, or_mod, and_mask}
use Rattle.std.proofs.lemmas.Simd.{get_or_narrower}
use Rattle.std.proofs.lemmas.List.{get_or_past, get_or_append_left, get_or-append_right}
use Rattle.std.proofs.lemmas.Bool.{cases_lt, cases_Bool}
use Rattle.std.proofs.lemmas.Bool.Decides.{nat_tests}
use Rattle.vector.specs.Lanes.{lane, row, splatted, anded, ored, shifted_right_4, lanes_number, lane64, all_zero}
use Rattle.vector.specs.Words.{word_lanes}
use Rattle.vector.specs.Laws.{words_long}
use Rattle.vector.proofs.Rows.{length-row, lane_row, row_is, row_ext}
use Rattle.vector.proofs.Numbers.{zero_from, zero_to, or_is_zero, lanes_number_past, lanes_number-zero}
use Rattle.vector.proofs.Words.{by_eight, byte_at, number_of_bytes, byte_of_number}

pub byte_and : (a b j : ℕ) → byte_at (bit_and a b) j ≡ bit_and (byte_at a j) (byte_at b j)
byte_and a b j = rw (and_shr a b (8 * j)) (and_mod (a / 2 ^ (8 * j)) (b / 2 ^ (8 * j)) 8)

pub byte_or : (a b j : ℕ) → byte_at (bit_or a b) j ≡ bit_or (byte_at a j) (byte_at b j)
byte_or a b j = rw (or_shr a b (8 * j)) (or_mod (a / 2 ^ (8 * j)) (b / 2 ^ (8 * j)) 8)

-- the lanes of two words as a row
word_at : (w j : ℕ) → j < 8 → lane (to_le_bytes w64 w) j ≡ byte_at w j
word_at w j h = by_eight (λ k. lane (to_le_bytes w64 w) k ≡ byte_at w k) (omega arith) refl refl refl refl refl refl refl j h

lane_of : (low high i : ℕ) → i < 16 → lane (word_lanes low high) i ≡ byte_at (cond (nat_lt i 8) low high) (i % 8)
unfolding word_lanes
lane_of low high i h =
    ⊎_elim
    (λ (l : i < 8).
    let t : ltb i 8 ≡ true = grind (arith, nat_tests) in
    let m : i % 8 ≡ i = omega arith in
    get_or_append_left (to_le_bytes w64 low) (to_le_bytes w64 high) 0 i l ∙ rw (t, m) (word_at low i l))
    (λ (r : 8 ≤ i).
    let t : ltb i 8 ≡ false = grind (arith, nat_tests) in
    let m : i % 8 ≡ i - 8 = omega arith in
    get_or-append_right (to_le_bytes w64 low) (to_le_bytes w64 high) 8 i 0 refl r ∙ rw (t, m) (word_at high (i - 8) (omega arith)))
    (cases_lt i 8)

pub word_lanes_row : (low high : ℕ) → word_lanes low high ≡ row 16 (λ i. byte_at (cond (nat_lt i 8) low high) (i % 8))
word_lanes_row low high = row_is 16 _ _ (words_long low high) (lane_of low high)

-- an operation on words that works byte by byte
pub words_op : (op : ℕ → ℕ → ℕ) → ((a b j : ℕ) → byte_at (op a b) j ≡ op (byte_at a j) (byte_at b j)) → (a b c d : ℕ)
    → word_lanes (op a c) (op b d) ≡ row 16 (λ i. op (lane (word_lanes a b) i) (lane (word_lanes c d) i))
words_op op each a b c d =
    word_lanes_row (op a c) (op b d)
    ∙ row_ext 16 _ _
    (λ i h. rw (lane_of a b i h, lane_of c d i h)
    (elim (nat_lt i 8) as (λ v. byte_at (cond v (op a c) (op b d)) (i % 8) ≡ op (byte_at (cond v a b) (i % 8)) (byte_at (cond v c d) (i % 8)))
    [ true ↦ each a c (i % 8) | false ↦ each b d (i % 8) ]))

-- an operation on one word that maps each of its bytes
pub words_map : (g f : ℕ → ℕ) (a b : ℕ) → ((w j : ℕ) → j < 8 → byte_at (g w) j ≡ f (byte_at w j)) → word_lanes (g a) (g b) ≡ row 16 (λ i. f (lane (word_lanes a b) i))
words_map g f a b each =
    word_lanes_row (g a) (g b)
    ∙ row_ext 16 _ _
    (λ i h. rw (lane_of a b i h)
    (elim (nat_lt i 8) as (λ v. byte_at (cond v (g a) (g b)) (i % 8) ≡ f (byte_at (cond v a b) (i % 8)))
    [ true ↦ each a (i % 8) (omega arith) | false ↦ each b (i % 8) (omega arith) ]))

pub byte_halved : (w j : ℕ) → j < 8 → byte_at (bit_and (w / 16) 0x0f0f_0f0f_0f0f_0f0f) j ≡ byte_at w j / 16
byte_halved w j h =
    let ones : byte_at 0x0f0f_0f0f_0f0f_0f0f j ≡ 15 = by_eight (λ k. byte_at 0x0f0f_0f0f_0f0f_0f0f k ≡ 15) refl refl refl refl refl refl refl refl j h in
    let swapped : w / 16 / 2 ^ (8 * j) ≡ w / 2 ^ (8 * j) / 16 = shr-shr w 4 (8 * j) ∙ ap (λ k. w / 2 ^ k) (add_comm 4 (8 * j)) ∙ sym (shr-shr w (8 * j) 4) in
    byte_and (w / 16) 0x0f0f_0f0f_0f0f_0f0f j ∙ ap (bit_and (byte_at (w / 16) j)) ones ∙ and_mask (byte_at (w / 16) j) 4 ∙ rw swapped (omega arith)

pub words_and : (a b c d : ℕ) → word_lanes (bit_and a c) (bit_and b d) ≡ anded 16 (word_lanes a b) (word_lanes c d)
words_and = words_op bit_and byte_and

pub words_or : (a b c d : ℕ) → word_lanes (bit_or a c) (bit_or b d) ≡ ored 16 (word_lanes a b) (word_lanes c d)
words_or = words_op bit_or byte_or

pub words_shift : (a b : ℕ) → word_lanes (bit_and (a / 16) 0x0f0f_0f0f_0f0f_0f0f) (bit_and (b / 16) 0x0f0f_0f0f_0f0f_0f0f) ≡ shifted_right_4 16 (word_lanes a b)
words_shift a b = words_map (λ w. bit_and (w / 16) 0x0f0f_0f0f_0f0f_0f0f) (λ x. x / 16) a b byte_halved

same_bytes : (b : ℕ) → b < 256 → (i : ℕ) → lane (splatted 8 b) i < 256
same_bytes b lt i =
    ⊎_elim
    (λ (l : i < 8). rw (lane_row 8 (λ _. b) i l) lt)
    (λ (r : 8 ≤ i). rw (get_or_past (splatted 8 b) i 0 (omega (arith, length-row 8 (λ _. b)))) (omega arith))
    (cases_lt i 8)

splat_number : (b : ℕ) → b * 0x0101_0101_0101_0101 ≡ lanes_number 8 (splatted 8 b) 0
unfolding lanes_number row
splat_number b = omega arith

pub byte_splat : (b j : ℕ) → b < 256 → j < 8 → byte_at (b * 0x0101_0101_0101_0101) j ≡ b
byte_splat b j lt h =
    let e : 0 + j ≡ j = omega arith in
    ap (λ w. byte_at w j) (splat_number b) ∙ byte_of_number 8 (splatted 8 b) 0 (same_bytes b lt) j h ∙ ap (lane (splatted 8 b)) e ∙ lane_row 8 (λ _. b) j h

pub words_splat : (b : ℕ) → b < 256 → word_lanes (b * 0x0101_0101_0101_0101) (b * 0x0101_0101_0101_0101) ≡ splatted 16 b
words_splat b lt =
    word_lanes_row (b * 0x0101_0101_0101_0101) (b * 0x0101_0101_0101_0101)
    ∙ row_ext 16 _ _
    (λ i h. elim (nat_lt i 8) as (λ v. byte_at (cond v (b * 0x0101_0101_0101_0101) (b * 0x0101_0101_0101_0101)) (i % 8) ≡ b)
    [ true ↦ byte_splat b (i % 8) lt (omega arith) | false ↦ byte_splat b (i % 8) lt (omega arith) ])

-- two words made of sixteen lanes
pub words_pack : (xs : List ℕ) → length xs ≡ 16 → ((i : ℕ) → lane xs i < 256) → word_lanes (lanes_number 8 xs 0) (lanes_number 8 xs 8) ≡ xs
words_pack xs e b = word_lanes_row (lanes_number 8 xs 0) (lanes_number 8 xs 8) ∙ sym (row_is 16 _ xs e each)
  where
    each : (i : ℕ) → i < 16 → lane xs i ≡ byte_at (cond (nat_lt i 8) (lanes_number 8 xs 0) (lanes_number 8 xs 8)) (i % 8)
    each i h =
        ⊎_elim
        (λ (l : i < 8).
        let p = byte_of_number 8 xs 0 b (i % 8) (omega arith) in
        let q : 0 + i % 8 ≡ i = omega arith in
        let t : ltb i 8 ≡ true = grind (arith, nat_tests) in
        rw t (sym (p ∙ ap (lane xs) q)))
        (λ (r : 8 ≤ i).
        let p = byte_of_number 8 xs 8 b (i % 8) (omega arith) in
        let q : 8 + i % 8 ≡ i = omega arith in
        let t : ltb i 8 ≡ false = grind (arith, nat_tests) in
        rw t (sym (p ∙ ap (lane xs) q)))
        (cases_lt i 8)

-- the 64-bit lanes of two words
pub words_low : (low high : ℕ) → low < 2 ^ 64 → lanes_number 8 (word_lanes low high) 0 ≡ low
words_low low high lt =
    number_of_bytes 8 low (word_lanes low high) 0 lt
    (λ j h.
    let e : 0 + j ≡ j = omega arith in
    let m : j % 8 ≡ j = omega arith in
    let t : ltb j 8 ≡ true = grind (arith, nat_tests) in
    let l : j < 16 = omega arith in
    rw (e, lane_of low high j l, t, m))

pub words_high : (low high : ℕ) → high < 2 ^ 64 → lanes_number 8 (word_lanes low high) 8 ≡ high
words_high low high lt =
    number_of_bytes 8 high (word_lanes low high) 8 lt
    (λ j h.
    let m : (8 + j) % 8 ≡ j = omega arith in
    let t : ltb (8 + j) 8 ≡ false = grind (arith, nat_tests) in
    let l : 8 + j < 16 = omega arith in
    rw (lane_of low high (8 + j) l, t, m))

pub words_64_low : (low high k : ℕ) → low < 2 ^ 64 → k ≡ 0 → lane64 (word_lanes low high) k ≡ low
words_64_low low high k l e = let m : 8 * k ≡ 0 = omega arith in rw m (words_low low high l)

pub words_64_high : (low high k : ℕ) → high < 2 ^ 64 → k ≡ 1 → lane64 (word_lanes low high) k ≡ high
words_64_high low high k h e = let m : 8 * k ≡ 8 = omega arith in rw m (words_high low high h)

pub words_64_past : (low high k : ℕ) → 2 ≤ k → lane64 (word_lanes low high) k ≡ 0
words_64_past low high k h = lanes_number_past 8 (word_lanes low high) (8 * k) (omega (arith, words_long low high))

-- ---- all lanes 0
zero_words : (i : ℕ) → lane (word_lanes 0 0) i ≡ 0
zero_words i =
    ⊎_elim
    (λ (l : i < 16). lane_of 0 0 i l ∙ elim (nat_lt i 8) as (λ v. byte_at (cond v 0 0) (i % 8) ≡ 0) [ true ↦ none | false ↦ none ])
    (λ (r : 16 ≤ i). get_or_past (word_lanes 0 0) i 0 (omega (arith, words_long 0 0)))
    (cases_lt i 16)
  where
    none : byte_at 0 (i % 8) ≡ 0
    none = rw zero-div

pub words_zero : (low high : ℕ) → low < 2 ^ 64 → high < 2 ^ 64 → (bit_or low high == 0) ≡ all_zero (word_lanes low high)
words_zero low high l h = ⊎_elim yes_zero not_zero (cases_Bool (all_zero (word_lanes low high)))
  where
    yes_zero : all_zero (word_lanes low high) ≡ true → (bit_or low high == 0) ≡ all_zero (word_lanes low high)
    yes_zero t =
        let lanes = zero_to (word_lanes low high) t in
        let a : low ≡ 0 = sym (words_low low high l) ∙ lanes_number-zero 8 (word_lanes low high) 0 lanes in
        let b : high ≡ 0 = sym (words_high low high h) ∙ lanes_number-zero 8 (word_lanes low high) 8 lanes in
        let e : nat_eq (bit_or low high) 0 ≡ true = rw (a, b) in
        e ∙ sym t

    not_zero : all_zero (word_lanes low high) ≡ false → (bit_or low high == 0) ≡ all_zero (word_lanes low high)
    not_zero f =
        ⊎_elim
        (λ (t : nat_eq (bit_or low high) 0 ≡ true).
        let split = or_is_zero low high in
        let a : low ≡ 0 = grind (arith, nat_tests) in
        let b : high ≡ 0 = grind (arith, nat_tests) in
        t ∙ sym (zero_from (word_lanes low high) (λ i. rw (a, b) (zero_words i))))
        (λ (n : nat_eq (bit_or low high) 0 ≡ false). n ∙ sym f)
        (cases_Bool (bit_or low high == 0))

-- ---- two words as a vector gives them in bytes
pub words_held : (low high : ℕ) → low < 2 ^ 64 → high < 2 ^ 64 → digits_l 256 16 (number_l (2 ^ 64) (low ∷ high ∷ [])) ≡ word_lanes low high
words_held low high l h = row_is 16 _ _ refl each ∙ sym (word_lanes_row low high)
  where
    word : (k : ℕ) → k < 16 → get_or (low ∷ high ∷ []) (k / 8) 0 ≡ cond (ltb k 8) low high
    word k within =
        ⊎_elim
        (λ (s : k < 8). let d : k / 8 ≡ 0 = omega arith in let t : ltb k 8 ≡ true = grind (arith, nat_tests) in rw (d, t))
        (λ (r : 8 ≤ k). let d : k / 8 ≡ 1 = omega arith in let t : ltb k 8 ≡ false = grind (arith, nat_tests) in rw (d, t))
        (cases_lt k 8)

    each : (k : ℕ) → k < 16 → lane (digits_l 256 16 (number_l (2 ^ 64) (low ∷ high ∷ []))) k ≡ byte_at (cond (ltb k 8) low high) (k % 8)
    each k within =
        let xs = low ∷ high ∷ [] in
        let e : 8 * (k / 8) + k % 8 ≡ k = omega arith in
        let p : 256 ^ (k % 8) ≡ 2 ^ (8 * (k % 8)) = by_eight (λ j. 256 ^ j ≡ 2 ^ (8 * j)) refl refl refl refl refl refl refl refl (k % 8) (omega arith) in
        let at = get_or_narrower (2 ^ 64) 8 256 16 xs (k / 8) (k % 8) refl (l, (h, tt)) (omega arith) (omega arith) in
        rw e at at ∙ rw (p, word k within)

-- what the proofs of the word half use
pub ruleset words = (words_and, words_or, words_shift, words_splat, words_zero, words_pack, words_held, words_64_low, words_64_high, words_64_past)
