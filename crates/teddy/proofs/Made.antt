-- Buckets and masks that are made from the buckets assigned to a book's patterns are those of the book.
use Rattle.std.proofs.Common.{◌≡◌, ℕ, ◌/◌, ◌%◌, ◌<◌, List, length, get_or, ◌∙◌, arith}
use Rattle.rules.specs.Limits.{mask_buckets, hash_buckets}
use Rattle.rules.specs.Book.{Book, count_of}
use Rattle.pattern.specs.Order.{order_in}
use Rattle.pattern.proofs.Trying.{reading_order}
use Rattle.vector.specs.Lanes.{row}
use Rattle.vector.proofs.Rows.{row_ext}
use Rattle.rabinkarp.specs.declared.buckets.Buckets.{Buckets}
use Rattle.rabinkarp.specs.Buckets.{bucket_ids, in_bucket, Holds}
use Rattle.rabinkarp.proofs.Members.{bucket_same}
use Rattle.teddy.specs.Buckets.{groups_of, groups_by}
use Rattle.teddy.specs.Masks.{byte_of, marks, low_mask, high_mask}
use Rattle.teddy.specs.Teddy.{MaskIs}
use Rattle.teddy.specs.declared.mask_table.MaskTable.{MaskTable}
use Rattle.teddy.proofs.Marking.{marks_same}

module _ (b : Book) (table : List ℕ) (known : (i : ℕ) → i < count_of b → get_or table i 0 ≡ (groups_of b).bucket i) where
  same : (i : ℕ) → i < length (order_in b) → get_or table (get_or (order_in b) i 0) 0 % mask_buckets ≡ (groups_of b).bucket (get_or (order_in b) i 0)
  same i l = omega (arith, known (get_or (order_in b) i 0) ((reading_order b).known i l))

  part_is : (part : ℕ → ℕ) (j : ℕ) → row 16 (λ n. marks (groups_by b table).bucket (λ i. part (byte_of b j i)) n (order_in b)) ≡ row 16 (λ n. marks (groups_of b).bucket (λ i. part (byte_of b j i)) n (order_in b))
  part_is part j = row_ext 16 _ _ (λ n _. marks_same (groups_by b table).bucket (groups_of b).bucket (λ i. part (byte_of b j i)) n (order_in b) same)

  pub mask_is : (j : ℕ) (m : MaskTable) → MaskIs (groups_by b table) j m → MaskIs (groups_of b) j m
  unfolding low_mask high_mask
  mask_is j m is = record { lo = is.lo ∙ part_is (λ x. x % 16) j; hi = is.hi ∙ part_is (λ x. x / 16) j }

  pub placed_is : (s : Buckets) → Holds s (λ i. get_or table i 0 % hash_buckets) (order_in b) → (k : ℕ) → k < mask_buckets → bucket_ids s k ≡ in_bucket (groups_of b).bucket (order_in b) k
  placed_is s held k l = held k (omega arith) ∙ bucket_same b (λ i. get_or table i 0 % hash_buckets) k (groups_of b).bucket (λ i lt. omega (arith, known i lt))
