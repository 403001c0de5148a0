-- The operations of `std::simd` on sixteen bytes, as rows of lanes, and an array that `from_fn` makes.
use lib.Lanes.{chunk, zip2, sel_l, fold_l, number_l, digits_l, top}
use lib.Bits.{bit_and, bit_or}
use borrow.Rule.Simd.Lanes.{act2}
use borrow.Table.Row.{s_int}
use mir.Syntax.{w8, Op2, mask, eq, lt, shr, unsigned}
use mir.Val.{zeroes}
use denote.Param.Members.{Mut}
use Rattle.std.specs.Fn.{Called}
use Rattle.std.specs.Array.{IsFromFnResult, IsFromFnResultFrom}
use lib.Dec.{T}
use Rattle.std.proofs.Common.{subst, min, ◌≡◌, ℕ, zero, suc, ◌+◌, ◌-◌, ◌*◌, ◌/◌, ◌%◌, ◌^◌, ◌<◌, ◌≤◌, Bool, true, false, cond, ◌&&◌, ◌||◌, eqb, ltb, leb, List, [], ◌∷◌, map, length, replicate, get_or, take, drop, refl, sym, ap, ◌∙◌, ⊎_elim, arith}
use Rattle.std.proofs.lemmas.Simd.{length-zip2, get_or-zip2, get_or-sel_l, length-sel_l, tops_compared, get_or-replicate, swz_l, SwzOk, get_or-swz_l, length-swz_l, SwzOk-from_Each1, Each1-from_get_or, get_or_wider}
use Rattle.std.proofs.lemmas.List.{get_or_past, get_or-drop, get_or-take, length-take-le, length-drop, take_all, drop_more}
use Rattle.std.proofs.lemmas.Bool.{cases_lt}
use Rattle.std.proofs.lemmas.Bool.Decides.{nat_tests}
use Rattle.vector.specs.Lanes.{lane, row, splatted, loaded, all_zero, anded, ored, compared, shifted_right_4, shuffled, lanes_number, lane64}
use Rattle.vector.proofs.Numbers.{and_assoc, or_is_zero, lanes_number_past}
use Rattle.vector.proofs.Rows.{length-row, lane_row, row_is, row_ext}

-- what an operator gives of two bytes, as the goals of a check write it
abbrev bytes2 : Op2 → ℕ → ℕ → ℕ
bytes2 o = act2 o (s_int w8) (s_int w8) (s_int w8)

zip2_row : (f : ℕ → ℕ → ℕ) (xs ys : List ℕ) → length xs ≡ 16 → length ys ≡ 16 → zip2 f xs ys ≡ row 16 (λ i. f (lane xs i) (lane ys i))
zip2_row f xs ys lx ly = row_is 16 _ (zip2 f xs ys) (length-zip2 f xs ys (omega arith) ∙ lx) (λ k h. get_or-zip2 f xs ys k 0 0 0 (omega arith) (omega arith))

pub splat_row : (b : ℕ) → replicate 16 b ≡ splatted 16 b
splat_row b = row_is 16 _ (replicate 16 b) refl (λ k h. get_or-replicate {A = ℕ} 16 k b 0 h)

pub and_row : (xs ys : List ℕ) → length xs ≡ 16 → length ys ≡ 16 → zip2 bit_and xs ys ≡ anded 16 xs ys
and_row = zip2_row bit_and

pub or_row : (xs ys : List ℕ) → length xs ≡ 16 → length ys ≡ 16 → zip2 bit_or xs ys ≡ ored 16 xs ys
or_row = zip2_row bit_or

pub shift_row : (xs : List ℕ) → length xs ≡ 16 → zip2 (bytes2 (shr unsigned)) xs (replicate 16 4) ≡ shifted_right_4 16 xs
shift_row xs l = zip2_row (λ a b. a / 2 ^ b) xs (replicate 16 4) l refl ∙ row_ext 16 _ _ (λ i h. rw (get_or-replicate {A = ℕ} 16 i 4 0 h))

-- two vectors joined by a comparison t of two others
select_row : (t : ℕ → ℕ → Bool) (xs ys us vs : List ℕ) → length xs ≡ 16 → length ys ≡ 16 → length us ≡ 16 → length vs ≡ 16
    → sel_l (map (top 7) (zip2 (λ a b. cond (t a b) 255 0) xs ys)) us vs ≡ row 16 (λ i. cond (t (lane xs i) (lane ys i)) (lane us i) (lane vs i))
select_row t xs ys us vs lx ly la lb = ap (λ ms. sel_l ms us vs) (tops_compared w8 t xs ys) ∙ row_is 16 _ (sel_l (zip2 t xs ys) us vs) long each
  where
    lm : length (zip2 t xs ys) ≡ 16
    lm = length-zip2 t xs ys (omega arith) ∙ lx

    long : length (sel_l (zip2 t xs ys) us vs) ≡ 16
    long = length-sel_l (zip2 t xs ys) us vs (omega (arith, lm)) (omega (arith, lm)) ∙ lm

    each : (k : ℕ) → k < 16 → lane (sel_l (zip2 t xs ys) us vs) k ≡ cond (t (lane xs k) (lane ys k)) (lane us k) (lane vs k)
    each k within =
        get_or-sel_l (zip2 t xs ys) us vs k 0 (omega (arith, lm)) (omega arith) (omega arith)
        ∙ ap (λ m. cond m (lane us k) (lane vs k)) (get_or-zip2 t xs ys k 0 0 false (omega arith) (omega arith))

pub equal_row : (xs ys : List ℕ) → length xs ≡ 16 → length ys ≡ 16
    → sel_l (map (top 7) (zip2 (bytes2 (mask eq)) xs ys)) (replicate 16 255) (replicate 16 0) ≡ compared 16 xs ys
equal_row xs ys lx ly =
    select_row eqb xs ys (replicate 16 255) (replicate 16 0) lx ly refl refl
    ∙ row_ext 16 _ _ (λ i h. rw (get_or-replicate {A = ℕ} 16 i 255 0 h, get_or-replicate {A = ℕ} 16 i 0 0 h))

and_true : (b : Bool) → (b && true) ≡ b
and_true true = refl
and_true false = refl

fold_zero : (a : ℕ) (xs : List ℕ) → eqb (fold_l bit_or a xs) 0 ≡ eqb a 0 && all_zero xs
fold_zero a [] = sym (and_true (eqb a 0))
fold_zero a (x ∷ xs) = fold_zero (bit_or a x) xs ∙ ap (λ b. b && all_zero xs) (or_is_zero a x) ∙ sym (and_assoc (eqb a 0) (eqb x 0) (all_zero xs))

pub zero_row : (xs : List ℕ) → eqb (fold_l bit_or 0 xs) 0 ≡ all_zero xs
zero_row xs = fold_zero 0 xs

-- ---- a shuffle whose indices above 15 are made 128
named_row : (js : List ℕ) → length js ≡ 16 → sel_l (map (top 7) (zip2 (bytes2 (mask (lt unsigned))) js (replicate 16 16))) js (replicate 16 128) ≡ row 16 (λ i. cond (ltb (lane js i) 16) (lane js i) 128)
named_row js long =
    select_row ltb js (replicate 16 16) js (replicate 16 128) long refl long refl
    ∙ row_ext 16 _ _ (λ i h. rw (get_or-replicate {A = ℕ} 16 i 16 0 h, get_or-replicate {A = ℕ} 16 i 128 0 h))

or_true : (b : Bool) → T (b || true)
or_true true = tt
or_true false = tt

named_below : (j : ℕ) → T (leb 128 (cond (ltb j 16) j 128) || ltb (cond (ltb j 16) j 128) 16)
named_below j = elim (ltb j 16) as (λ v. (ltb j 16 ≡ v) → T (leb 128 (cond v j 128) || ltb (cond v j 128) 16)) [ true ↦ small | false ↦ λ _. tt ] refl
  where
    small : ltb j 16 ≡ true → T (leb 128 j || ltb j 16)
    small t = rw t (or_true (leb 128 j))

below_ok : (js : List ℕ) → SwzOk w8 16 16 0 (row 16 (λ i. cond (ltb (lane js i) 16) (lane js i) 128))
below_ok js =
    let f : ℕ → ℕ = λ i. cond (ltb (lane js i) 16) (lane js i) 128 in
    SwzOk-from_Each1 w8 16 1 16 0 (row 16 f) (omega arith) (omega (arith, length-row 16 f))
    (Each1-from_get_or (λ j. T (zeroes 16 w8 j || ltb j 16)) (row 16 f) 0
    (λ i within. let l : i < 16 = omega (arith, length-row 16 f) in rw (lane_row 16 f i l) (named_below (lane js i))))

pub named_ok : (js : List ℕ) → length js ≡ 16 → SwzOk w8 16 16 0 (sel_l (map (top 7) (zip2 (bytes2 (mask (lt unsigned))) js (replicate 16 16))) js (replicate 16 128))
named_ok js long = subst (SwzOk w8 16 16 0) (sym (named_row js long)) (below_ok js)

picked : (xs : List ℕ) (k j : ℕ) → k < 16 → cond (leb 128 (cond (ltb j 16) j 128)) 0 (lane xs (16 * ((0 + k) / 16) + cond (ltb j 16) j 128)) ≡ cond (ltb j 16) (lane xs (k / 16 * 16 + j)) 0
picked xs k j within =
    ⊎_elim
    (λ (l : j < 16).
    let t : ltb j 16 ≡ true = grind (arith, nat_tests) in
    let u : leb 128 j ≡ false = grind (arith, nat_tests) in
    let e : 16 * ((0 + k) / 16) + j ≡ k / 16 * 16 + j = omega arith in
    rw (t, u, e))
    (λ (r : 16 ≤ j). let t : ltb j 16 ≡ false = grind (arith, nat_tests) in rw t)
    (cases_lt j 16)

pub shuffle_row : (xs js : List ℕ) → length js ≡ 16 → swz_l w8 16 xs 0 (sel_l (map (top 7) (zip2 (bytes2 (mask (lt unsigned))) js (replicate 16 16))) js (replicate 16 128)) ≡ shuffled 16 xs js
shuffle_row xs js l = ap (swz_l w8 16 xs 0) (named_row js l) ∙ row_is 16 _ _ (length-swz_l w8 16 xs 0 (row 16 f) ∙ length-row 16 f) each
  where
    f : ℕ → ℕ
    f i = cond (ltb (lane js i) 16) (lane js i) 128

    each : (k : ℕ) → k < 16 → lane (swz_l w8 16 xs 0 (row 16 f)) k ≡ cond (ltb (lane js k) 16) (lane xs (k / 16 * 16 + lane js k)) 0
    each k within =
        get_or-swz_l w8 16 xs 0 (row 16 f) k (omega (arith, length-row 16 f))
        ∙ rw (lane_row 16 f k within) (picked xs k (lane js k) within)

-- ---- words
number_at : (n : ℕ) (xs : List ℕ) (p : ℕ) → p + n ≤ length xs → number_l 256 (chunk p n xs) ≡ lanes_number n xs p
unfolding lanes_number
number_at zero xs p h = refl
number_at (suc n) xs p h = rw (drop_more xs p 0 (omega arith)) (ap (λ x. lane xs p + 256 * x) (number_at n xs (p + 1) (omega arith)))

-- the two words that sixteen bytes make
word_at : (xs : List ℕ) → length xs ≡ 16 → ((i : ℕ) → lane xs i < 256) → (k : ℕ) → k < 2 → get_or (digits_l (2 ^ 64) 2 (number_l 256 xs)) k 0 ≡ lane64 xs k
word_at xs long b k l = get_or_wider 256 8 (2 ^ 64) 2 xs k refl (Each1-from_get_or (λ x. x < 256) xs 0 (λ i _. b i)) l ∙ number_at 8 xs (8 * k) (omega arith)

pub word_0 : (xs : List ℕ) → length xs ≡ 16 → ((i : ℕ) → lane xs i < 256) → number_l 256 xs % 2 ^ 64 ≡ lane64 xs 0
word_0 xs long b = word_at xs long b 0 (omega arith)

pub word_1 : (xs : List ℕ) → length xs ≡ 16 → ((i : ℕ) → lane xs i < 256) → number_l 256 xs / 2 ^ 64 % 2 ^ 64 ≡ lane64 xs 1
word_1 xs long b = word_at xs long b 1 (omega arith)

pub past_64 : (xs : List ℕ) (k : ℕ) → length xs ≡ 16 → 2 ≤ k → lane64 xs k ≡ 0
past_64 xs k long h = lanes_number_past 8 xs (8 * k) (omega arith)

-- ---- a load
module _ (s : List ℕ) (p m : ℕ) (e : m ≡ min p (length s)) where
  rest_is : take (length s - m) (drop m s) ≡ drop m s
  rest_is = take_all (length s - m) (drop m s) (omega (arith, length-drop m s))

  rest_lane : (i : ℕ) → lane (take (length s - m) (drop m s)) i ≡ lane s (p + i)
  rest_lane i =
      ap (λ xs. lane xs i) rest_is
      ∙ get_or-drop m s i 0
      ∙ ⊎_elim
      (λ (l : p < length s). let q : m + i ≡ p + i = omega arith in ap (lane s) q)
      (λ (r : length s ≤ p). get_or_past s (m + i) 0 (omega arith) ∙ sym (get_or_past s (p + i) 0 (omega arith)))
      (cases_lt p (length s))

  pub rest_row : loaded 16 (take (length s - m) (drop m s)) 0 ≡ loaded 16 s p
  rest_row = row_ext 16 _ _ (λ i h. let z : 0 + i ≡ i = omega arith in ap (lane (take (length s - m) (drop m s))) z ∙ rest_lane i)

pub front_row : (s : List ℕ) → 16 ≤ length s → take 16 s ≡ loaded 16 s 0
front_row s h =
    row_is 16 _ _ (length-take-le 16 s h)
    (λ k h0. let z : 0 + k ≡ k = omega arith in get_or-take 16 s k 0 h0 ∙ sym (ap (lane s) z))

-- what `from_fn` makes of a closure that no call changes
module _ {F : Type 0} (g : Mut F (ℕ × Unit {0}) ℕ) (f : F) (h : ℕ → ℕ) (each : (i y : ℕ) (f' : F) → i < 16 → Called g f (i, tt) y f' → (y ≡ h i) × (f' ≡ f)) where
  made_from : (xs : List ℕ) (i n : ℕ) → i + n ≤ 16 → IsFromFnResultFrom g f xs i n → (k : ℕ) → i ≤ k → k < i + n → lane xs k ≡ h k
  made_from xs i zero le m k low high = absurd (omega arith)
  made_from xs i (suc n) le m k low high =
      let one = each i m.1 m.0 (omega arith) m.3 in
      let rest = subst (λ (q : F). IsFromFnResultFrom g q xs (i + 1) n) one.1 m.4 in
      ⊎_elim
      (λ (l : k < i + 1). let e : k ≡ i = omega arith in rw e (m.2.1 0 ∙ one.0))
      (λ (r : i + 1 ≤ k). made_from xs (i + 1) n (omega arith) rest k r (omega arith))
      (cases_lt k (i + 1))

pub made_row : {F : Type 0} {g : Mut F (ℕ × Unit {0}) ℕ} {f : F} {h : ℕ → ℕ} {xs : List ℕ} → IsFromFnResult g f xs 16 → ((i y : ℕ) (f' : F) → i < 16 → Called g f (i, tt) y f' → (y ≡ h i) × (f' ≡ f)) → xs ≡ row 16 h
made_row {F} {g} {f} {h} {xs} m each = row_is 16 h xs m.long (λ k h0. made_from g f h each xs 0 16 (omega arith) m.each k (omega arith) (omega arith))

-- what the proofs of the array half use
pub ruleset simd_rows = (splat_row, rest_row, zero_row, equal_row, and_row, or_row, shift_row, named_ok, shuffle_row, word_0, word_1, past_64)
