-- The order in which patterns are tried has every id, a preferred one before the others.
use Rattle.std.proofs.Common.{◌≡◌, ℕ, zero, suc, ◌<◌, cond, eqb, List, [], ◌∷◌, length, get_or, refl, sym, inl, inr, arith, rules}
use Rattle.std.proofs.lemmas.Grind.{common_steps}
use Rattle.std.proofs.lemmas.List.{length_push}
use Rattle.std.proofs.lemmas.List.Sums.{sum_by-cons}
use Rattle.std.proofs.lemmas.Bool.{cases_eq, ne_eqb, cond-false}
use Rattle.rules.specs.declared.primitives.MatchKind.{MatchKind}
use Rattle.rules.specs.declared.primitives.MatchKind.TheVariants.{LeftmostFirst, LeftmostLongest}
use Rattle.rules.specs.Book.{Book, count_of, size, PreferredBy}
use Rattle.pattern.specs.Order.{times, first_to, longest_to, order_by, order_in, ReadingOrder}
use Rattle.pattern.proofs.Longest.{longest_order}

-- a number that a list has stands somewhere
place_of : (k : ℕ) (xs : List ℕ) → 0 < times k xs → (j : ℕ) × (j < length xs) × (get_or xs j 0 ≡ k)
place_of k [] h = search rules
place_of k (x ∷ xs) h = elim (cases_eq x k) [
  | inl e ↦ (0, omega arith, e)
  | inr ne ↦
      let rest = place_of k xs (omega (arith, sum_by-cons (λ y. cond (eqb y k) 1 0) x xs, cond-false {A = ℕ} (eqb x k) 1 0 (ne_eqb x k ne))) in
      (suc rest.0, omega (arith, rest.1), rest.2)
]

-- what a reading order is, by a kind that need not be the book's
record Tried (k : MatchKind) (b : Book) (ids : List ℕ) : Type 0 where
  long : length ids ≡ count_of b
  known : (i : ℕ) → i < length ids → get_or ids i 0 < count_of b
  all : (i : ℕ) → i < count_of b → (j : ℕ) × (j < length ids) × (get_or ids j 0 ≡ i)
  preferred : (i j : ℕ) → i < j → j < length ids → PreferredBy k b (get_or ids i 0) (get_or ids j 0)

first_long : (n : ℕ) → length (first_to n) ≡ n
first_long zero = refl
first_long (suc n) = omega (arith, length_push (first_to n) n, first_long n)

first_at : (n k : ℕ) → k < n → get_or (first_to n) k 0 ≡ k
first_at zero k h = search rules
first_at (suc n) k h = grind (arith, common_steps, first_long n, first_at n k)

tried : (b : Book) (k : MatchKind) → Tried k b (order_by k b)
tried b LeftmostFirst =
    let l = first_long (count_of b) in
    record {
      long = l;
      known = λ k h. let m : k < count_of b = omega (arith, l) in omega (arith, first_at (count_of b) k m);
      all = λ k h. (k, omega (arith, l), first_at (count_of b) k h);
      preferred = λ i j lt h. let m : j < count_of b = omega (arith, l) in omega (arith, first_at (count_of b) i (omega arith), first_at (count_of b) j m);
    }
tried b LeftmostLongest =
    let o = longest_order b in
    record {
      long = o.long;
      known = o.known;
      all = λ k h. place_of k (longest_to b (count_of b)) (omega (arith, o.once k h));
      preferred = λ i j lt h.
          let ids = longest_to b (count_of b) in
          let fall = o.falling i j lt h in
          elim (cases_eq (size b (get_or ids j 0)) (size b (get_or ids i 0))) [
            | inl e ↦ inr (sym e, omega (arith, o.rising i j (lt, h, e)))
            | inr ne ↦ inl (omega (arith, fall, ne))
          ];
    }

-- the order of every book has every id, a preferred one before the others
pub reading_order : (b : Book) → ReadingOrder b (order_in b)
reading_order b =
    let h = tried b b.kind in
    record { long = h.long; known = h.known; all = h.all; preferred = h.preferred }

pub ordered : (b : Book) (ids : List ℕ) → ids ≡ order_in b → ReadingOrder b ids
ordered b ids e = rw e (reading_order b)
