-- The rule of the buckets and that of the masks.
-- BucketRule g         taken in their order, a pattern whose first low nybbles equal an earlier one's joins its bucket, and any other
--                      goes to the bucket 7 - id % 8
-- Bears g part j n k   some pattern of the bucket k has, as that part of its byte j, the nybble n
-- Admits g j k x       mask j admits the bucket k for the byte x: some pattern of k has its low nybble, and some its high nybble
-- BucketsStand         the buckets follow their rule, for every book and every order of ids
-- MasksStand           what the two tables of a mask have in common for a byte are exactly the buckets that it admits
use Rattle.std.specs.Prelude.{◌≡◌, ℕ, ◌-◌, ◌/◌, ◌%◌, ◌<◌, ◌↔◌, List, length, bit_and, slice_index}
use Rattle.vector.specs.Lanes.{lane}
use Rattle.rules.specs.Limits.{mask_buckets}
use Rattle.rules.specs.Book.{Book, pattern}
use Rattle.teddy.specs.Bits.{IsSet}
use Rattle.teddy.specs.Buckets.{Alike, front, Groups, groups_in}
use Rattle.teddy.specs.Masks.{byte_of, low_mask, high_mask}

pub record BucketRule (g : Groups) : Type 0 where
  pub joins : (j i : ℕ) → j < i → i < length g.ids → Alike (pattern g.book (slice_index g.ids j)) (pattern g.book (slice_index g.ids i)) (front g.book) → g.bucket (slice_index g.ids i) ≡ g.bucket (slice_index g.ids j)
  pub opens : (i : ℕ) → i < length g.ids → ((j : ℕ) → j < i → Alike (pattern g.book (slice_index g.ids j)) (pattern g.book (slice_index g.ids i)) (front g.book) → ⊥) → g.bucket (slice_index g.ids i) ≡ mask_buckets - 1 - slice_index g.ids i % mask_buckets

abbrev pub Bears : Groups → (ℕ → ℕ) → ℕ → ℕ → ℕ → Type 0
Bears g part j n k = (i : ℕ) × (i < length g.ids) × (g.bucket (slice_index g.ids i) ≡ k) × (part (byte_of g.book j (slice_index g.ids i)) ≡ n)

abbrev pub Admits : Groups → ℕ → ℕ → ℕ → Type 0
Admits g j k x = Bears g (λ y. y % 16) j (x % 16) k × Bears g (λ y. y / 16) j (x / 16) k

abbrev pub BucketsStand : Type 0
BucketsStand = (b : Book) (ids : List ℕ) → BucketRule (groups_in b ids)

abbrev pub MasksStand : Type 0
MasksStand = (g : Groups) (j k x : ℕ) → x < 256 → (IsSet (bit_and (lane (low_mask g j) (x % 16)) (lane (high_mask g j) (x / 16))) k ↔ Admits g j k x)
