-- A bit of a 64-bit lane is a bit of one of its bytes.
use Rattle.std.proofs.Common.{◌≡◌, ℕ, ◌+◌, ◌*◌, ◌/◌, ◌%◌, ◌^◌, ◌<◌, true, List, sym, ap, ◌∙◌, arith}
use Rattle.std.proofs.lemmas.Nat.{shr-shr}
use Rattle.std.proofs.lemmas.Nat.Bits.{bit_at_cat_low, bit_at-zero}
use Rattle.teddy.specs.Bits.{IsSet}
use Rattle.vector.specs.Lanes.{lane, lane64, all_zero}
use Rattle.vector.proofs.Numbers.{zero_to}
use Rattle.vector.proofs.Words.{byte_of_number}

low_bit : (x b : ℕ) → b < 8 → x % 256 / 2 ^ b % 2 ≡ x / 2 ^ b % 2
low_bit x b h =
    let e : x / 256 * 2 ^ 8 + x % 256 ≡ x = omega arith in
    sym (bit_at_cat_low (x / 256) 8 (x % 256) b h) ∙ ap (λ z. z / 2 ^ b % 2) e

pub bit_64 : (xs : List ℕ) (k j : ℕ) → ((i : ℕ) → lane xs i < 256) → j < 64 → lane64 xs k / 2 ^ j % 2 ≡ lane xs ((64 * k + j) / 8) / 2 ^ ((64 * k + j) % 8) % 2
bit_64 xs k j bytes h =
    let a = j / 8 in
    let b = j % 8 in
    let w = lane64 xs k in
    let split : 8 * a + b ≡ j = omega arith in
    let at : 8 * k + a ≡ (64 * k + j) / 8 = omega arith in
    let low : b ≡ (64 * k + j) % 8 = omega arith in
    ap (λ n. w / 2 ^ n % 2) (sym split) ∙ ap (λ x. x % 2) (sym (shr-shr w (8 * a) b)) ∙ sym (low_bit (w / 2 ^ (8 * a)) b (omega arith))
    ∙ ap (λ x. x / 2 ^ b % 2) (byte_of_number 8 xs (8 * k) bytes a (omega arith) ∙ ap (lane xs) at) ∙ ap (λ n. lane xs ((64 * k + j) / 8) / 2 ^ n % 2) low

-- nothing is set in 0
pub none_in_zero : (n j : ℕ) → n ≡ 0 → IsSet n j → ⊥
none_in_zero n j e set = omega (arith, set, ap (λ x. x / 2 ^ j % 2) e, bit_at-zero j)

pub none_in_zeros : (xs : List ℕ) (i j : ℕ) → all_zero xs ≡ true → IsSet (lane xs i) j → ⊥
none_in_zeros xs i j e set = none_in_zero (lane xs i) j (zero_to xs e i) set
