-- Two halves side by side: what an operation on each gives of both.
use Rattle.std.specs.Prelude.{◌≡◌, ℕ, zero, suc, ◌+◌, ◌-◌, ◌*◌, ◌/◌, ◌^◌, ◌<◌, ◌≤◌, min, cond, List, ◌++◌, length, nat_lt, ◌==◌, bit_and, bit_or, refl}
use Rattle.std.proofs.Common.{sym, ap, ◌∙◌, ⊎_elim, arith, add_assoc}
use Rattle.std.proofs.lemmas.List.{length-append, get_or_append_left, get_or-append_right, get_or_past}
use Rattle.std.proofs.lemmas.Bool.{cases_lt}
use Rattle.std.proofs.lemmas.Bool.Decides.{nat_tests}
use Rattle.vector.specs.Lanes.{lane, row, splatted, loaded, anded, ored, compared, shifted_right_4, shifted_in, shuffled, lanes_number, lane64}
use Rattle.vector.proofs.Rows.{length-row, lane_row, row_is}
use Rattle.vector.proofs.Numbers.{zero-append}

-- a row of 32 from two of 16
pub row_join : (f g h : ℕ → ℕ) → ((i : ℕ) → i < 16 → g i ≡ f i) → ((i : ℕ) → i < 16 → h i ≡ f (16 + i)) → row 16 g ++ row 16 h ≡ row 32 f
row_join f g h low high =
    row_is 32 f (row 16 g ++ row 16 h)
    (length-append (row 16 g) (row 16 h) ∙ omega (arith, length-row 16 g, length-row 16 h))
    (λ k lt. ⊎_elim (λ (l : k < 16). left k l) (λ (r : 16 ≤ k). right k r lt) (cases_lt k 16))
  where
    left : (k : ℕ) → k < 16 → lane (row 16 g ++ row 16 h) k ≡ f k
    left k l = get_or_append_left (row 16 g) (row 16 h) 0 k (omega (arith, length-row 16 g)) ∙ lane_row 16 g k l ∙ low k l

    right : (k : ℕ) → 16 ≤ k → k < 32 → lane (row 16 g ++ row 16 h) k ≡ f k
    right k r lt =
        let m : k - 16 < 16 = omega arith in
        let e : 16 + (k - 16) ≡ k = omega arith in
        get_or-append_right (row 16 g) (row 16 h) 16 k 0 (length-row 16 g) r ∙ lane_row 16 h (k - 16) m ∙ high (k - 16) m ∙ ap f e

-- the lanes of two halves
pub lane_low : (a b : List ℕ) → length a ≡ 16 → (i : ℕ) → i < 16 → lane (a ++ b) i ≡ lane a i
lane_low a b e i h = get_or_append_left a b 0 i (omega arith)

pub lane_high : (a b : List ℕ) → length a ≡ 16 → (i : ℕ) → lane (a ++ b) (16 + i) ≡ lane b i
lane_high a b e i =
    let m : (16 + i) - 16 ≡ i = omega arith in
    get_or-append_right a b 16 (16 + i) 0 e (omega arith) ∙ ap (lane b) m

-- the halves a, b of one vector and c, d of another
module _ (a b c d : List ℕ) (la : length a ≡ 16) (lc : length c ≡ 16) where
  -- an operation that works lane by lane
  pub lanewise_join : (op : ℕ → ℕ → ℕ) → row 16 (λ i. op (lane a i) (lane c i)) ++ row 16 (λ i. op (lane b i) (lane d i)) ≡ row 32 (λ i. op (lane (a ++ b) i) (lane (c ++ d) i))
  lanewise_join op =
      row_join (λ i. op (lane (a ++ b) i) (lane (c ++ d) i)) (λ i. op (lane a i) (lane c i)) (λ i. op (lane b i) (lane d i))
      (λ i h. rw (lane_low a b la i h, lane_low c d lc i h))
      (λ i h. rw (lane_high a b la i, lane_high c d lc i))

  pub anded_join : anded 16 a c ++ anded 16 b d ≡ anded 32 (a ++ b) (c ++ d)
  anded_join = lanewise_join bit_and

  pub ored_join : ored 16 a c ++ ored 16 b d ≡ ored 32 (a ++ b) (c ++ d)
  ored_join = lanewise_join bit_or

  pub compared_join : compared 16 a c ++ compared 16 b d ≡ compared 32 (a ++ b) (c ++ d)
  compared_join = lanewise_join (λ x y. cond (x == y) 255 0)

  pub shifted_in_join : (k : ℕ) → k ≤ 16 → shifted_in k 16 a d ++ shifted_in k 16 b a ≡ shifted_in k 32 (a ++ b) (c ++ d)
  shifted_in_join k le = row_join _ _ _ low high
    where
      low : (i : ℕ) → i < 16 → cond (nat_lt i k) (lane d (16 - k + i)) (lane a (i - k)) ≡ cond (nat_lt i k) (lane (c ++ d) (32 - k + i)) (lane (a ++ b) (i - k))
      low i h =
          let m : i - k < 16 = omega arith in
          let e : 32 - k + i ≡ 16 + (16 - k + i) = omega arith in
          rw (e, lane_high c d lc (16 - k + i), lane_low a b la (i - k) m)

      high : (i : ℕ) → i < 16 → cond (nat_lt i k) (lane a (16 - k + i)) (lane b (i - k)) ≡ cond (nat_lt (16 + i) k) (lane (c ++ d) (32 - k + (16 + i))) (lane (a ++ b) (16 + i - k))
      high i h =
          ⊎_elim
          (λ (l : i < k).
          let m : 16 + i - k < 16 = omega arith in
          let e : 16 + i - k ≡ 16 - k + i = omega arith in
          let p = lane_low a b la (16 + i - k) m in
          let q = ap (lane a) e in
          grind (arith, nat_tests))
          (λ (r : k ≤ i).
          let e : 16 + i - k ≡ 16 + (i - k) = omega arith in
          let p = lane_high a b la (i - k) in
          let q = ap (lane (a ++ b)) e in
          grind (arith, nat_tests))
          (cases_lt i k)

  -- c and d are the indices
  pub shuffled_join : shuffled 16 a c ++ shuffled 16 b d ≡ shuffled 32 (a ++ b) (c ++ d)
  shuffled_join = row_join _ _ _ low high
    where
      low : (i : ℕ) → i < 16 → cond (nat_lt (lane c i) 16) (lane a (i / 16 * 16 + lane c i)) 0 ≡ cond (nat_lt (lane (c ++ d) i) 16) (lane (a ++ b) (i / 16 * 16 + lane (c ++ d) i)) 0
      low i h =
          rw (lane_low c d lc i h)
          (let j = lane c i in
          ⊎_elim
          (λ (l : j < 16). let p = lane_low a b la (i / 16 * 16 + j) (omega arith) in grind (arith, nat_tests))
          (λ (r : 16 ≤ j). grind (arith, nat_tests))
          (cases_lt j 16))

      high : (i : ℕ) → i < 16 → cond (nat_lt (lane d i) 16) (lane b (i / 16 * 16 + lane d i)) 0 ≡ cond (nat_lt (lane (c ++ d) (16 + i)) 16) (lane (a ++ b) ((16 + i) / 16 * 16 + lane (c ++ d) (16 + i))) 0
      high i h =
          rw (lane_high c d lc i)
          (let j = lane d i in
          let e : (16 + i) / 16 * 16 + j ≡ 16 + (i / 16 * 16 + j) = omega arith in
          let p = lane_high a b la (i / 16 * 16 + j) in
          rw (e, p))

pub shifted_right_4_join : (a b : List ℕ) → length a ≡ 16 → shifted_right_4 16 a ++ shifted_right_4 16 b ≡ shifted_right_4 32 (a ++ b)
shifted_right_4_join a b la = lanewise_join a b a b la la (λ x _. x / 16)

-- ---- lanes as one number
pub lanes_number_low : (a b : List ℕ) (n p : ℕ) → p + n ≤ length a → lanes_number n (a ++ b) p ≡ lanes_number n a p
unfolding lanes_number
lanes_number_low a b zero p h = refl
lanes_number_low a b (suc n) p h = rw (get_or_append_left a b 0 p (omega arith), lanes_number_low a b n (p + 1) (omega arith))

pub lanes_number_high : (a b : List ℕ) → length a ≡ 16 → (n p : ℕ) → lanes_number n (a ++ b) (16 + p) ≡ lanes_number n b p
unfolding lanes_number
lanes_number_high a b e zero p = refl
lanes_number_high a b e (suc n) p = rw (lane_high a b e p, add_assoc 16 p 1, lanes_number_high a b e n (p + 1))

-- ---- a load, whose second half stops at the greatest place
pub loaded_join : (s : List ℕ) (p q : ℕ) → length s < 2 ^ 64 → q ≡ min (p + 16) (2 ^ 64 - 1) → loaded 16 s p ++ loaded 16 s q ≡ loaded 32 s p
loaded_join s p q few e = row_join _ _ _ (λ i h. refl) high
  where
    high : (i : ℕ) → i < 16 → lane s (q + i) ≡ lane s (p + (16 + i))
    high i h =
        ⊎_elim
        (λ (l : p + 16 < 2 ^ 64). let m : q + i ≡ p + (16 + i) = omega arith in ap (lane s) m)
        (λ (r : 2 ^ 64 ≤ p + 16). get_or_past s (q + i) 0 (omega arith) ∙ sym (get_or_past s (p + (16 + i)) 0 (omega arith)))
        (cases_lt (p + 16) (2 ^ 64))

pub splatted_join : (b : ℕ) → splatted 16 b ++ splatted 16 b ≡ splatted 32 b
splatted_join b = row_join _ _ _ (λ i h. refl) (λ i h. refl)

-- ---- the 64-bit lanes
pub lane64_low : (a b : List ℕ) → length a ≡ 16 → (k : ℕ) → k < 2 → lane64 (a ++ b) k ≡ lane64 a k
lane64_low a b e k h = lanes_number_low a b 8 (8 * k) (omega arith)

pub lane64_high : (a b : List ℕ) → length a ≡ 16 → (k : ℕ) → 2 ≤ k → lane64 (a ++ b) k ≡ lane64 b (k - 2)
lane64_high a b e k h =
    let m : 8 * k ≡ 16 + 8 * (k - 2) = omega arith in
    rw m (lanes_number_high a b e 8 (8 * (k - 2)))

-- what the proofs of the doubled vector use
pub ruleset joins = (anded_join, ored_join, compared_join, shifted_right_4_join, shifted_in_join, shuffled_join, splatted_join, loaded_join, lane64_low, lane64_high, zero-append)
