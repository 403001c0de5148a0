-- times k xs           how often k stands in xs
-- first_to n           the ids below n, in order of entry
-- inserted b n ids     the id n put behind all ids of ids whose patterns are at least as long
-- longest_to b n       the ids below n by falling length, equal lengths by rising id
-- order_by k b         the ids of b in the order of the kind k
-- order_in b           the ids of b in the order in which patterns are tried: that of its kind
-- LongestOrder b ids   ids holds each id of b once: falling length, equal lengths by rising id
-- ReadingOrder b ids   ids holds every id of b, a preferred one before the others
use Rattle.std.specs.Prelude.{◌≡◌, ℕ, zero, suc, ◌<◌, ◌≤◌, cond, List, [], ◌∷◌, ◌++◌, length, count_by, nat_eq, nat_le, slice_index}
use Rattle.rules.specs.declared.primitives.MatchKind.{MatchKind}
use Rattle.rules.specs.declared.primitives.MatchKind.TheVariants.{LeftmostFirst, LeftmostLongest}
use Rattle.rules.specs.Book.{Book, count_of, size, Preferred}

abbrev pub times : ℕ → List ℕ → ℕ
times k xs = count_by (λ x. nat_eq x k) xs

abbrev pub first_to : ℕ → List ℕ
first_to zero = []
first_to (suc n) = first_to n ++ n ∷ []

abbrev pub inserted : Book → ℕ → List ℕ → List ℕ
inserted b n [] = n ∷ []
inserted b n (i ∷ ids) = cond (nat_le (size b n) (size b i)) (i ∷ inserted b n ids) (n ∷ i ∷ ids)

abbrev pub longest_to : Book → ℕ → List ℕ
longest_to b zero = []
longest_to b (suc n) = inserted b n (longest_to b n)

abbrev pub order_by : MatchKind → Book → List ℕ
order_by LeftmostFirst b = first_to (count_of b)
order_by LeftmostLongest b = longest_to b (count_of b)

abbrev pub order_in : Book → List ℕ
order_in b = order_by b.kind b

pub record LongestOrder (b : Book) (ids : List ℕ) : Type 0 where
  pub long : length ids ≡ count_of b
  pub known : (k : ℕ) → k < length ids → slice_index ids k < count_of b
  pub once : (k : ℕ) → k < count_of b → times k ids ≡ 1
  pub falling : (i j : ℕ) → i < j → j < length ids → size b (slice_index ids j) ≤ size b (slice_index ids i)
  pub rising : (i j : ℕ) → (i < j) × (j < length ids) × (size b (slice_index ids j) ≡ size b (slice_index ids i)) → slice_index ids i < slice_index ids j

pub record ReadingOrder (b : Book) (ids : List ℕ) : Type 0 where
  pub long : length ids ≡ count_of b
  pub known : (k : ℕ) → k < length ids → slice_index ids k < count_of b
  pub all : (k : ℕ) → k < count_of b → (j : ℕ) × (j < length ids) × (slice_index ids j ≡ k)
  pub preferred : (i j : ℕ) → i < j → j < length ids → Preferred b (slice_index ids i) (slice_index ids j)
