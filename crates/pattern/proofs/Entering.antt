-- A book with one pattern more, whose id goes into the longest order behind all that are at least as long.
use Rattle.std.proofs.lemmas.Grind.{common_steps}
use Rattle.std.proofs.Common.{◌≡◌, ℕ, ◌+◌, ◌-◌, ◌<◌, ◌≤◌, cond, eqb, List, length, get_or, sym, ap, ◌∙◌, inl, inr, mul-zero, arith, rules}
use Rattle.std.specs.List.{insert}
use Rattle.std.proofs.lemmas.List.{length_push}
use Rattle.std.proofs.lemmas.List.Edits.{length-insert, get_or-insert_at, get_or-insert_above}
use Rattle.std.proofs.ByRecursion.{sum_by_le, All-from_get_or}
use Rattle.std.proofs.lemmas.Bool.{cases_eq, ne_eqb, eq-eqb, cond-false, cond-true}
use Rattle.rules.specs.Limits.{max_patterns, max_bytes}
use Rattle.rules.specs.Book.{Book, count_of, size, total, Within}
use Rattle.rules.specs.Entered.{enter}
use Rattle.pattern.specs.Order.{times, LongestOrder}

pub size_old : (b : Book) (p : List ℕ) (k : ℕ) → k < count_of b → size (enter b p) k ≡ size b k
size_old b p k h = grind (arith, common_steps)

pub size_new : (b : Book) (p : List ℕ) → size (enter b p) (count_of b) ≡ length p
size_new b p = grind (arith, common_steps)

times_inserted : (k : ℕ) (xs : List ℕ) (i x : ℕ) → times k (insert xs i x) ≡ cond (eqb x k) 1 0 + times k xs
times_inserted k xs i x = grind (arith, common_steps)

-- a number that stands nowhere in a list
times_none : (k : ℕ) (xs : List ℕ) → ((j : ℕ) → j < length xs → get_or xs j 0 ≡ k → ⊥) → times k xs ≡ 0
times_none k xs none =
    let f : ℕ → ℕ = λ y. cond (eqb y k) 1 0 in
    let all = All-from_get_or (λ y. f y ≤ 0) xs 0 (λ j h. let e = cond-false {A = ℕ} (eqb (get_or xs j 0) k) 1 0 (ne_eqb (get_or xs j 0) k (none j h)) in omega (arith, e)) in
    omega (arith, sum_by_le f 0 xs all, mul-zero (length xs))

-- id a stands before id c in the longest order
Before : Book → ℕ → ℕ → Type 0
Before b a c = (size b c ≤ size b a) × (size b c ≡ size b a → a < c)

-- where n is put among the numbers f, which gives g: what holds of each, and of each with the later ones, holds on
each : (P : ℕ → Type 0) (f g : ℕ → ℕ) (at n l : ℕ) → ((k : ℕ) → k < at → g k ≡ f k) → g at ≡ n → ((k : ℕ) → at < k → g k ≡ f (k - 1)) → ((k : ℕ) → k < l → P (f k)) → P n → at ≤ l → (k : ℕ) → k < l + 1 → P (g k)
each P f g at n l before here behind old new le k h = search rules

pairs : (R : ℕ → ℕ → Type 0) (f g : ℕ → ℕ) (at n l : ℕ) → ((k : ℕ) → k < at → g k ≡ f k) → g at ≡ n → ((k : ℕ) → at < k → g k ≡ f (k - 1)) → ((i j : ℕ) → i < j → j < l → R (f i) (f j)) → ((k : ℕ) → k < at → R (f k) n) → ((k : ℕ) → at ≤ k → k < l → R n (f k)) → at ≤ l → (i j : ℕ) → i < j → j < l + 1 → R (g i) (g j)
pairs R f g at n l before here behind old low high le i j lt h = search rules

-- the new pattern's id goes behind those of all that are at least as long
module _ (b : Book) (ids : List ℕ) (p : List ℕ) (at : ℕ) (old : LongestOrder b ids) (le : at ≤ length ids) (longer : (k : ℕ) → k < at → length p ≤ size b (get_or ids k 0)) (shorter : (k : ℕ) → at ≤ k → k < length ids → size b (get_or ids k 0) < length p) where
  abbrev n : ℕ
  n = count_of b

  abbrev ids' : List ℕ
  ids' = insert ids at (count_of b)

  before : (k : ℕ) → k < at → get_or ids' k 0 ≡ get_or ids k 0
  before k h = grind (arith, common_steps)

  here : get_or ids' at 0 ≡ n
  here = get_or-insert_at ids at n 0 le

  behind : (k : ℕ) → at < k → get_or ids' k 0 ≡ get_or ids (k - 1) 0
  behind k h = let e : k - 1 + 1 ≡ k = omega arith in ap (λ j. get_or ids' j 0) (sym e) ∙ get_or-insert_above ids at n 0 (k - 1) (omega arith) le

  kept : (k : ℕ) → k < length ids → size (enter b p) (get_or ids k 0) ≡ size b (get_or ids k 0)
  kept k h = size_old b p (get_or ids k 0) (old.known k h)

  olds : (i j : ℕ) → i < j → j < length ids → Before (enter b p) (get_or ids i 0) (get_or ids j 0)
  unfolding Before
  olds i j lt h = grind (arith, common_steps)

  all : (i j : ℕ) → i < j → j < length ids + 1 → Before (enter b p) (get_or ids' i 0) (get_or ids' j 0)
  unfolding Before
  all =
      let new = size_new b p in
      pairs (Before (enter b p)) (λ k. get_or ids k 0) (λ k. get_or ids' k 0) at n (length ids) before here behind olds
      (λ k h. (omega (arith, kept k (omega arith), longer k h), λ _. old.known k (omega arith)))
      (λ k h l. (omega (arith, kept k l, shorter k h l), λ q. absurd (omega (arith, q, kept k l, shorter k h l))))
      le

  pub entered_order : LongestOrder (enter b p) ids'
  unfolding Before
  entered_order =
      let more = length_push b.patterns p in
      let longs = length-insert ids at n le in
      record {
        long = omega (arith, old.long);
        known = λ k h. each (λ i. i < count_of (enter b p)) (λ k. get_or ids k 0) (λ k. get_or ids' k 0) at n (length ids) before here behind (λ k l. omega (arith, old.known k l)) (omega arith) le k (omega arith);
        once = λ k h. elim (cases_eq n k) [
          | inl e ↦ omega (arith, times_inserted k ids at n, cond-true {A = ℕ} (eqb n k) 1 0 (eq-eqb n k e), times_none k ids (λ j l q. omega (arith, old.known j l)))
          | inr ne ↦ omega (arith, times_inserted k ids at n, cond-false {A = ℕ} (eqb n k) 1 0 (ne_eqb n k ne), old.once k (omega (arith, ne)))
        ];
        falling = λ i j lt h. (all i j lt (omega arith)).0;
        rising = λ i j h. (all i j h.0 (omega arith)).1 h.2;
      }

-- the bounds hold on
pub entered_within : (b : Book) (p : List ℕ) → Within b → 0 < length p → count_of b < max_patterns → total b + length p ≤ max_bytes → Within (enter b p)
entered_within b p w some few short = grind (arith, common_steps)
