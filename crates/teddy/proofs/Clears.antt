-- The lowest set bit of a number, and the number without it.
use Rattle.std.proofs.Common.{◌≡◌, ℕ, suc, ◌+◌, ◌-◌, ◌*◌, ◌/◌, ◌%◌, ◌^◌, ◌<◌, ◌⊎◌, sym, ap, ◌∙◌, subst, inl, inr, mod-lt, arith}
use Rattle.std.specs.Int.{bit_at, w64}
use lib.Bits.{bit_and, and_block, and_self}
use lib.Count.{count_trailing_zeros}
use native.Mathlib.Nat.{mod_self}
use Rattle.std.proofs.lemmas.Nat.{pow_pos, pow_below, and_mask, shr_split}
use Rattle.std.proofs.lemmas.Nat.Bits.{bit_at-trailing_zeros, bit_at-zero, bit_at-pow_same, bit_at-pow_other, bit_at_above, bit_at_cat_low, bit_at_cat_high, same_from_bits}
use Rattle.std.proofs.lemmas.Bool.{cases_eq, cases_lt}
use Rattle.teddy.specs.Bits.{IsSet, Taken}

-- the number whose lowest set bit is t, with the bits of m above it
module _ (m t : ℕ) where
  within : 2 ^ t < 2 ^ suc t
  within = pow_below t (suc t) (omega arith)

  -- the other bits are those of the number without it
  other : (j : ℕ) → (j ≡ t → ⊥) → bit_at (m * 2 ^ suc t + 2 ^ t) j ≡ bit_at (m * 2 ^ suc t) j
  other j ne =
      let z : m * 2 ^ suc t + 0 ≡ m * 2 ^ suc t = omega arith in
      subst (λ x. bit_at (m * 2 ^ suc t + 2 ^ t) j ≡ bit_at x j) z (elim (cases_lt j (suc t)) [
        | inl l ↦ bit_at_cat_low m (suc t) (2 ^ t) j l ∙ (bit_at-pow_other t j ne ∙ sym (bit_at_cat_low m (suc t) 0 j l ∙ bit_at-zero j))
        | inr g ↦ bit_at_cat_high m (suc t) (2 ^ t) j within g ∙ sym (bit_at_cat_high m (suc t) 0 j (pow_pos (suc t)) g)
      ])

  pub set_rest : (j : ℕ) → IsSet (m * 2 ^ suc t + 2 ^ t) j → (j ≡ t) ⊎ IsSet (m * 2 ^ suc t) j
  set_rest j set = elim (cases_eq j t) [
    | inl e ↦ inl e
    | inr ne ↦ inr (sym (other j ne) ∙ set)
  ]

  cleared : bit_and (m * 2 ^ suc t + 2 ^ t) (m * 2 ^ suc t + 2 ^ t - 1) ≡ m * 2 ^ suc t
  cleared =
      let p = pow_pos t in
      let w = within in
      let e : m * 2 ^ suc t + 2 ^ t - 1 ≡ m * 2 ^ suc t + (2 ^ t - 1) = omega arith in
      rw (e, and_block (suc t) m m (2 ^ t) (2 ^ t - 1) w (omega arith), and_self m, and_mask (2 ^ t) t, mod_self (2 ^ t)) (omega arith)

-- a number by its lowest set bit
split : (n t : ℕ) → IsSet n t → ((j : ℕ) → j < t → bit_at n j ≡ 0) → n ≡ n / 2 ^ suc t * 2 ^ suc t + 2 ^ t
split n t set none =
    let low = n % 2 ^ suc t in
    let lt : low < 2 ^ suc t = mod-lt n (pow_pos (suc t)) in
    let same : (j : ℕ) → j < suc t → bit_at low j ≡ bit_at n j =
    λ j l. sym (subst (λ x. bit_at x j ≡ bit_at low j) (shr_split n (suc t)) (bit_at_cat_low (n / 2 ^ suc t) (suc t) low j l)) in
    let is : low ≡ 2 ^ t = same_from_bits low (2 ^ t) (λ j. elim (cases_lt j (suc t)) [
      | inl l ↦ elim (cases_eq j t) [
        | inl e ↦ same j l ∙ (subst (λ k. bit_at n k ≡ bit_at (2 ^ t) k) (sym e) (set ∙ sym (bit_at-pow_same t)))
        | inr ne ↦ same j l ∙ (none j (omega (arith, ne)) ∙ sym (bit_at-pow_other t j ne))
      ]
      | inr g ↦ bit_at_above low (suc t) j lt g ∙ sym (bit_at_above (2 ^ t) (suc t) j (within 0 t) g)
    ]) in
    omega (arith, shr_split n (suc t))

-- what `trailing_zeros` and `n & (n - 1)` give
pub taken : (n : ℕ) → 0 < n → n < 2 ^ 64 → Taken n (count_trailing_zeros 64 n) (bit_and n (n - 1))
taken n pos lt =
    let t = count_trailing_zeros 64 n in
    let m = n / 2 ^ suc t in
    let lowest = bit_at-trailing_zeros w64 n pos lt in
    let is : n ≡ m * 2 ^ suc t + 2 ^ t = split n t lowest.1 lowest.2 in
    let rest : bit_and n (n - 1) ≡ m * 2 ^ suc t = ap (λ x. bit_and x (x - 1)) is ∙ cleared m t in
    record {
      within = lowest.0;
      set = lowest.1;
      lowest = λ j l set. absurd (omega (arith, lowest.2 j l));
      sum = omega arith;
      kept = λ j set. elim (cases_eq j t) [
        | inl e ↦ subst (IsSet n) (sym e) lowest.1
        | inr ne ↦ subst (λ x. IsSet x j) (sym is) (other m t j ne ∙ subst (λ x. IsSet x j) rest set)
      ];
      others = λ j set. subst (λ x. (j ≡ t) ⊎ IsSet x j) (sym rest) (set_rest m t j (subst (λ x. IsSet x j) is set));
    }
