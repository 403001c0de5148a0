-- Laws of `all_zero`, and of `lanes_number`, the bytes of a list as one number.
use Rattle.std.proofs.Common.{◌≡◌, ℕ, zero, suc, ◌+◌, ◌*◌, ◌^◌, ◌<◌, ◌≤◌, Bool, true, false, ◌&&◌, eqb, List, [], ◌∷◌, ◌++◌, length, refl, pow-suc, add-one, arith}
use Rattle.std.specs.Prelude.{◌==◌, bit_or}
use Rattle.std.specs.Int.Bits.{or_add_and}
use Rattle.std.proofs.lemmas.Nat.{and_le_l, and_le_r}
use Rattle.std.proofs.lemmas.List.{get_or_past}
use Rattle.std.proofs.lemmas.Bool.Decides.{nat_tests}
use Rattle.vector.specs.Lanes.{lane, all_zero, lanes_number}

pub and_assoc : (a b c : Bool) → (a && (b && c)) ≡ ((a && b) && c)
and_assoc true b c = refl
and_assoc false b c = refl

-- ---- all_zero
pub zero-append : (xs ys : List ℕ) → all_zero (xs ++ ys) ≡ all_zero xs && all_zero ys
zero-append [] ys = refl
zero-append (x ∷ xs) ys = rw (zero-append xs ys) (and_assoc (eqb x 0) (all_zero xs) (all_zero ys))

-- a number made by `bit_or` is 0 exactly if both are
pub or_is_zero : (a b : ℕ) → (bit_or a b == 0) ≡ (a == 0) && b == 0
or_is_zero a b = let s = or_add_and a b in let l = and_le_l a b in let r = and_le_r a b in grind (arith, nat_tests)

pub zero_from : (xs : List ℕ) → ((i : ℕ) → lane xs i ≡ 0) → all_zero xs ≡ true
zero_from [] h = refl
zero_from (x ∷ xs) h = rw (h 0) (zero_from xs (λ i. h (suc i)))

pub zero_to : (xs : List ℕ) → all_zero xs ≡ true → (i : ℕ) → lane xs i ≡ 0
zero_to [] h i = refl
zero_to (x ∷ xs) h zero = grind (arith, nat_tests)
zero_to (x ∷ xs) h (suc i) = let t : all_zero xs ≡ true = grind (arith, nat_tests) in zero_to xs t i

-- ---- lanes_number
pub lanes_number_more : (n : ℕ) (xs : List ℕ) (p : ℕ) → lanes_number (n + 1) xs p ≡ lane xs p + 256 * lanes_number n xs (p + 1)
unfolding lanes_number
lanes_number_more n xs p = simp add-one

pub lanes_number_past : (n : ℕ) (xs : List ℕ) (p : ℕ) → length xs ≤ p → lanes_number n xs p ≡ 0
unfolding lanes_number
lanes_number_past zero xs p h = refl
lanes_number_past (suc n) xs p h = omega (arith, get_or_past xs p 0 h, lanes_number_past n xs (p + 1) (omega arith))

pub lanes_number_lt : (n : ℕ) (xs : List ℕ) (p : ℕ) → ((i : ℕ) → lane xs i < 256) → lanes_number n xs p < 256 ^ n
unfolding lanes_number
lanes_number_lt zero xs p b = omega arith
lanes_number_lt (suc n) xs p b = rw pow-suc (omega (arith, b p, lanes_number_lt n xs (p + 1) b))

pub lanes_number-zero : (n : ℕ) (xs : List ℕ) (p : ℕ) → ((i : ℕ) → lane xs i ≡ 0) → lanes_number n xs p ≡ 0
unfolding lanes_number
lanes_number-zero zero xs p h = refl
lanes_number-zero (suc n) xs p h = omega (arith, h p, lanes_number-zero n xs (p + 1) h)
