-- The bits of a mask.
use Rattle.std.proofs.Common.{◌≡◌, ℕ, zero, suc, ◌+◌, ◌*◌, ◌/◌, ◌%◌, ◌^◌, ◌<◌, ◌≤◌, cond, eqb, ◌⊎◌, ◌↔◌, List, [], ◌∷◌, length, replicate, get_or, take, set, fold, sym, refl, ap, ◌∙◌, inl, inr, ⊎_elim, arith}
use lib.Bits.{bit_or, or_zero_r}
use Rattle.std.proofs.lemmas.Nat.{one_shl}
use Rattle.std.proofs.lemmas.Nat.Bits.{bit_at_or, bit_at-zero, bit_at-pow_same, bit_at-pow_other}
use Rattle.std.proofs.lemmas.List.{take_all, length-set, get_or-set_same, get_or-set_other}
use Rattle.std.proofs.lemmas.Grind.{get_or_default_zero}
use Rattle.std.proofs.lemmas.List.Sums.{fold_more}
use Rattle.std.proofs.lemmas.Bool.{cases_eq, cases_lt, eq-eqb, ne_eqb}
use Rattle.rules.specs.Book.{Book}
use Rattle.vector.specs.Lanes.{lane, row}
use Rattle.vector.proofs.Rows.{length-row, lane_row, row_is}
use Rattle.teddy.specs.Bits.{IsSet}
use Rattle.teddy.specs.Masks.{byte_of, marks, low_mask, high_mask}

-- a bit of x | y is one of either
or_set : (x y b : ℕ) → (IsSet (bit_or x y) b ↔ (IsSet x b ⊎ IsSet y b))
or_set x y b = (
  (λ s. ⊎_elim (λ (l : x / 2 ^ b % 2 < 1). inr (omega (arith, s, bit_at_or x y b))) (λ (g : 1 ≤ x / 2 ^ b % 2). inl (omega arith)) (cases_lt (x / 2 ^ b % 2) 1)),
  (λ s. ⊎_elim (λ p. omega (arith, p, bit_at_or x y b)) (λ p. omega (arith, p, bit_at_or x y b)) s),
)

-- the bit k, where a is n
bit_set : (a n k b : ℕ) → (IsSet (cond (eqb a n) (2 ^ k) 0) b ↔ ((k ≡ b) × (a ≡ n)))
bit_set a n k b =
    elim (cases_eq a n) [
      | inl e ↦ rw (eq-eqb a n e) ((λ s. elim (cases_eq b k) [ inl q ↦ (sym q, e) | inr ne ↦ absurd (omega (arith, s, bit_at-pow_other k b ne)) ]), (λ p. rw (← p.0) (bit_at-pow_same k)))
      | inr ne ↦ rw (ne_eqb a n ne) ((λ s. absurd (omega (arith, s, bit_at-zero b))), (λ p. absurd (ne p.1)))
    ]

module _ (key nybble : ℕ → ℕ) where
  -- some id has the nybble n and the key b
  abbrev SomeWith : ℕ → ℕ → List ℕ → Type 0
  SomeWith n b xs = (i : ℕ) × (i < length xs) × (key (get_or xs i 0) ≡ b) × (nybble (get_or xs i 0) ≡ n)

  front_or_later : (n b x : ℕ) (xs : List ℕ) (i : ℕ) → i < length (x ∷ xs) → (key (get_or (x ∷ xs) i 0) ≡ b) × (nybble (get_or (x ∷ xs) i 0) ≡ n)
      → ((key x ≡ b) × (nybble x ≡ n)) ⊎ SomeWith n b xs
  front_or_later n b x xs zero h p = inl p
  front_or_later n b x xs (suc i) h p = inr (i, omega arith, p.0, p.1)

  -- the bits of a mark are the keys of the ids with the nybble
  pub marked_bits : (n : ℕ) (xs : List ℕ) (m b : ℕ) → (IsSet (fold (λ a i. bit_or a (cond (eqb (nybble i) n) (2 ^ key i) 0)) m xs) b ↔ (IsSet m b ⊎ SomeWith n b xs))
  marked_bits n [] m b = ((λ s. inl s), (λ s. ⊎_elim (λ p. p) (λ i. absurd (omega (arith, i.1))) s))
  marked_bits n (x ∷ xs) m b =
      let v = cond (eqb (nybble x) n) (2 ^ key x) 0 in
      let more = marked_bits n xs (bit_or m v) b in
      let either = or_set m v b in
      let one = bit_set (nybble x) n (key x) b in (
        (λ s. ⊎_elim (λ r. ⊎_elim (λ p. inl p) (λ q. let k = one.0 q in inr (0, omega arith, k.0, k.1)) (either.0 r)) (λ i. inr (suc i.0, omega (arith, i.1), i.2, i.3)) (more.0 s)),
        (λ s. ⊎_elim
            (λ p. more.1 (inl (either.1 (inl p))))
            (λ i. ⊎_elim (λ k. more.1 (inl (either.1 (inr (one.1 k))))) (λ l. more.1 (inr l)) (front_or_later n b x xs i.0 i.1 (i.2, i.3)))
            s),
      )

-- the entry of the nybble of one more id
entry_more : (bucket nybble : ℕ → ℕ) (ids xs : List ℕ) (i : ℕ) → i < length ids → nybble (get_or ids i 0) < 16 → xs ≡ row 16 (λ n. marks bucket nybble n (take i ids))
    → row 16 (λ n. marks bucket nybble n (take (i + 1) ids)) ≡ set xs (nybble (get_or ids i 0)) (bit_or (lane xs (nybble (get_or ids i 0))) (2 ^ bucket (get_or ids i 0)))
entry_more bucket nybble ids xs i il small is =
    let k = nybble (get_or ids i 0) in
    let v = bit_or (lane xs k) (2 ^ bucket (get_or ids i 0)) in
    let old : ℕ → ℕ = λ n. marks bucket nybble n (take i ids) in
    let long : length xs ≡ 16 = ap length is ∙ length-row 16 old in
    let each : (n : ℕ) → n < 16 → lane xs n ≡ old n = λ n lt. ap (λ l. lane l n) is ∙ lane_row 16 old n lt in
    sym (row_is 16 (λ n. marks bucket nybble n (take (i + 1) ids)) (set xs k v) (length-set xs k v ∙ long)
    (λ n lt.
    let more = fold_more (λ a y. bit_or a (cond (eqb (nybble y) n) (2 ^ bucket y) 0)) 0 ids i 0 il in
    elim (cases_eq n k) [
      | inl q ↦ rw (more, q, get_or-set_same xs k v 0 (omega (arith, long)), each k small, eq-eqb (nybble (get_or ids i 0)) k refl) refl
      | inr ne ↦ rw (more, get_or-set_other xs k n v 0 ne, each n lt, ne_eqb (nybble (get_or ids i 0)) n (λ q. ne (sym q)), or_zero_r (marks bucket nybble n (take i ids))) refl
    ]))

module _ (b : Book) (ids : List ℕ) (bucket : ℕ → ℕ) (i j : ℕ) where
  -- the masks of the first ids, by one id more
  pub low_more : i < length ids
      → low_mask record { book = b; ids = take (i + 1) ids; bucket = bucket } j
      ≡ set (low_mask record { book = b; ids = take i ids; bucket = bucket } j) (byte_of b j (get_or ids i 0) % 16)
      (bit_or (lane (low_mask record { book = b; ids = take i ids; bucket = bucket } j) (byte_of b j (get_or ids i 0) % 16)) (2 ^ bucket (get_or ids i 0)))
  unfolding low_mask
  low_more il = entry_more bucket (λ m. byte_of b j m % 16) ids _ i il (omega arith) refl

  pub high_more : i < length ids → byte_of b j (get_or ids i 0) < 256
      → high_mask record { book = b; ids = take (i + 1) ids; bucket = bucket } j
      ≡ set (high_mask record { book = b; ids = take i ids; bucket = bucket } j) (byte_of b j (get_or ids i 0) / 16)
      (bit_or (lane (high_mask record { book = b; ids = take i ids; bucket = bucket } j) (byte_of b j (get_or ids i 0) / 16)) (2 ^ bucket (get_or ids i 0)))
  unfolding high_mask
  high_more il fits = entry_more bucket (λ m. byte_of b j m / 16) ids _ i il (omega arith) refl

-- those of no ids
pub low_none : (b : Book) (bucket : ℕ → ℕ) (j : ℕ) → low_mask record { book = b; ids = []; bucket = bucket } j ≡ replicate 16 0
unfolding low_mask row
low_none b bucket j = refl

pub high_none : (b : Book) (bucket : ℕ → ℕ) (j : ℕ) → high_mask record { book = b; ids = []; bucket = bucket } j ≡ replicate 16 0
unfolding high_mask row
high_none b bucket j = refl

pub one_bit : (k : ℕ) → k < 8 → 1 * 2 ^ k % 256 ≡ 2 ^ k
one_bit k lt = one_shl k 8 lt

pub ruleset marking = (low_more, high_more, low_none, high_none, one_bit, get_or_default_zero, take_all)

-- the marks depend on the keys of the ids alone
folded_same : (key other nybble : ℕ → ℕ) (n : ℕ) (xs : List ℕ) (m : ℕ) → ((i : ℕ) → i < length xs → key (get_or xs i 0) ≡ other (get_or xs i 0))
    → fold (λ a i. bit_or a (cond (eqb (nybble i) n) (2 ^ key i) 0)) m xs ≡ fold (λ a i. bit_or a (cond (eqb (nybble i) n) (2 ^ other i) 0)) m xs
folded_same key other nybble n [] m e = refl
folded_same key other nybble n (x ∷ xs) m e = rw (e 0 (omega arith)) (folded_same key other nybble n xs _ (λ i l. e (suc i) (omega arith)))

pub marks_same : (key other nybble : ℕ → ℕ) (n : ℕ) (xs : List ℕ) → ((i : ℕ) → i < length xs → key (get_or xs i 0) ≡ other (get_or xs i 0)) → marks key nybble n xs ≡ marks other nybble n xs
marks_same key other nybble n xs e = folded_same key other nybble n xs 0 e
