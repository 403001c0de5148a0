-- What a loop over the lanes of an array has done after i turns.
use Rattle.std.specs.Prelude.{◌≡◌, ℕ, ◌+◌, ◌-◌, ◌*◌, ◌%◌, ◌^◌, ◌<◌, ◌≤◌, Bool, true, false, ◌&&◌, List, [], ◌∷◌, length, take, ◌==◌, bit_or, slice_set, refl}
use Rattle.std.proofs.Common.{sym, ap, ◌∙◌, arith, mod-eq_of_lt}
use Rattle.std.proofs.Math.Nat.{pow-le-pow_right}
use Rattle.std.proofs.lemmas.Nat.{or_shifted}
use Rattle.std.proofs.lemmas.List.Edits.{fill_by_more}
use Rattle.std.proofs.lemmas.List.{length-set, take_more}
use Rattle.vector.specs.Lanes.{lane, row, all_zero, lanes_number}
use Rattle.vector.proofs.Rows.{row_is}
use Rattle.vector.proofs.Numbers.{zero-append, or_is_zero, lanes_number_more, lanes_number_lt}

-- an array of sixteen whose first i are those of f
abbrev pub Filling : (ℕ → ℕ) → ℕ → List ℕ → Type 0
Filling f i xs = (length xs ≡ 16) × ((k : ℕ) → k < i → lane xs k ≡ f k)

pub filling_more : (f : ℕ → ℕ) (i : ℕ) (xs : List ℕ) (v : ℕ) → i < 16 → v ≡ f i → Filling f i xs → Filling f (i + 1) (slice_set xs i v)
filling_more f i xs v h e inv =
    let within : i < length xs = omega (arith, inv.0) in
    rw e (length-set xs i (f i) ∙ inv.0, fill_by_more f xs i 0 within inv.1)

pub filling_done : (f : ℕ → ℕ) (i : ℕ) (xs : List ℕ) → 16 ≤ i → Filling f i xs → xs ≡ row 16 f
filling_done f i xs h inv = row_is 16 f xs inv.0 (λ k lt. inv.1 k (omega arith))

and_true : (a : Bool) → (a && true) ≡ a
and_true true = refl
and_true false = refl

pub zero_more : (xs : List ℕ) (i any : ℕ) → i < length xs → (any == 0) ≡ all_zero (take i xs) → (bit_or any (lane xs i) == 0) ≡ all_zero (take (i + 1) xs)
zero_more xs i any h e =
    or_is_zero any (lane xs i) ∙ ap (λ b. b && lane xs i == 0) e ∙ sym (ap all_zero (take_more xs i 0 h) ∙ zero-append (take i xs) (lane xs i ∷ []) ∙ ap (λ b. all_zero (take i xs) && b) (and_true (lane xs i == 0)))

-- one byte more in front, as a loop from the last byte down has it
pub number_step : (xs : List ℕ) → ((i : ℕ) → lane xs i < 256) → (k i n : ℕ) → 0 < i → i ≤ 8 → n ≡ lanes_number (8 - i) xs (k + i)
    → bit_or (n * 256 % 2 ^ 64) (lane xs (k + (i - 1))) ≡ lanes_number (8 - (i - 1)) xs (k + (i - 1))
number_step xs b k i n pos le e =
    let x = lane xs (k + (i - 1)) in
    let few : 8 - i ≤ 7 = omega arith in
    let small : n < 256 ^ 7 = omega (arith, e, lanes_number_lt (8 - i) xs (k + i) b, pow-le-pow_right {n = 256} (omega arith) few) in
    let fits : n * 256 < 2 ^ 64 = omega arith in
    let joined : bit_or (n * 256 % 2 ^ 64) x ≡ n * 256 + x = rw (mod-eq_of_lt fits) (or_shifted n 8 x (b (k + (i - 1)))) in
    let one : 8 - (i - 1) ≡ (8 - i) + 1 = omega arith in
    let next : (k + (i - 1)) + 1 ≡ k + i = omega arith in
    let more : lanes_number (8 - (i - 1)) xs (k + (i - 1)) ≡ x + 256 * lanes_number (8 - i) xs (k + i) = rw one (lanes_number_more (8 - i) xs (k + (i - 1)) ∙ ap (λ p. x + 256 * lanes_number (8 - i) xs p) next) in
    joined ∙ sym (more ∙ rw (sym e) (omega arith))
