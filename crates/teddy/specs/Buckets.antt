-- The buckets of patterns, which are taken in an order of their ids.
-- Alike p q n         the first n low nybbles of p and q are equal
-- alike p q n         `Alike` as yes or no
-- front b             how many low nybbles are compared: max_masks, or the shortest length where that is less
-- leader b ids p      the first of ids whose pattern has the low nybbles of p; 0 where none has
-- bucket_of b ids i   the bucket of the pattern i: 7 less its leader modulo 8
-- Groups              patterns in buckets: ids of a book, which need not be all of them, in their order, and the bucket of each
-- groups_in b ids     these ids of the book b, each in its `bucket_of`
-- groups_of b         a book's own groups: all its ids in the order of its kind
-- groups_by b bs      the same ids by a table: each in the bucket that bs has at the id, modulo 8
use Rattle.std.specs.Prelude.{◌≡◌, ℕ, zero, suc, ◌-◌, ◌%◌, ◌<◌, min, Bool, true, ◌&&◌, List, ◌==◌, slice_index, find, unwrap_or}
use Rattle.rules.specs.Limits.{max_masks, mask_buckets}
use Rattle.rules.specs.Book.{Book, pattern, shortest}
use Rattle.pattern.specs.Order.{order_in}

abbrev pub Alike : List ℕ → List ℕ → ℕ → Type 0
Alike p q n = (k : ℕ) → k < n → slice_index p k % 16 ≡ slice_index q k % 16

abbrev pub alike : List ℕ → List ℕ → ℕ → Bool
alike p q zero = true
alike p q (suc n) = slice_index p n % 16 == slice_index q n % 16 && alike p q n

abbrev pub front : Book → ℕ
front b = min max_masks (shortest b)

abbrev pub leader : Book → List ℕ → List ℕ → ℕ
leader b ids p = unwrap_or (find (λ i. alike (pattern b i) p (front b)) ids) 0

abbrev pub bucket_of : Book → List ℕ → ℕ → ℕ
bucket_of b ids i = mask_buckets - 1 - leader b ids (pattern b i) % mask_buckets

pub record Groups : Type 0 where
  pub book : Book
  pub ids : List ℕ
  pub bucket : ℕ → ℕ

abbrev pub groups_in : Book → List ℕ → Groups
groups_in b ids = record { book = b; ids = ids; bucket = bucket_of b ids }

abbrev pub groups_of : Book → Groups
groups_of b = groups_in b (order_in b)

abbrev pub groups_by : Book → List ℕ → Groups
groups_by b bs = record { book = b; ids = order_in b; bucket = λ i. slice_index bs i % mask_buckets }
