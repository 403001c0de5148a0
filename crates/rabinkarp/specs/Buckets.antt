-- in_bucket key order k   the ids of an order whose key is k, in that order
-- bucket_ids s k          the ids in the bucket k of s
-- Holds s key order       each bucket of s has the ids whose key it is, in the order
use Rattle.std.specs.Prelude.{◌≡◌, ℕ, ◌+◌, ◌<◌, List, filter, nat_eq, slice_index}
use Rattle.std.specs.List.{between}
use Rattle.rules.specs.Limits.{hash_buckets}
use Rattle.rabinkarp.specs.declared.buckets.Buckets.{Buckets}

abbrev pub in_bucket : (ℕ → ℕ) → List ℕ → ℕ → List ℕ
in_bucket key order k = filter (λ id. nat_eq (key id) k) order

abbrev pub bucket_ids : Buckets → ℕ → List ℕ
bucket_ids s k = between (slice_index s.starts k) (slice_index s.starts (k + 1)) s.ids

abbrev pub Holds : Buckets → (ℕ → ℕ) → List ℕ → Type 0
Holds s key order = (k : ℕ) → k < hash_buckets → bucket_ids s k ≡ in_bucket key order k
