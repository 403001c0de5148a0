-- prefix_hash b i   the hash of the first bytes of the pattern i, as many as the shortest pattern has
-- hash_bucket b i   the bucket in which the pattern i lies
-- bucket_in b k     the ids that lie in the bucket k, in the order of the book's kind
use Rattle.std.specs.Prelude.{ℕ, ◌%◌, List, take}
use Rattle.rules.specs.Limits.{hash_buckets}
use Rattle.rules.specs.Book.{Book, pattern, shortest}
use Rattle.pattern.specs.Order.{order_in}
use Rattle.rabinkarp.specs.Hash.{hash_of}
use Rattle.rabinkarp.specs.Buckets.{in_bucket}

unfoldable pub prefix_hash : Book → ℕ → ℕ
prefix_hash b i = hash_of (take (shortest b) (pattern b i))

abbrev pub hash_bucket : Book → ℕ → ℕ
hash_bucket b i = prefix_hash b i % hash_buckets

unfoldable pub bucket_in : Book → ℕ → List ℕ
bucket_in b k = in_bucket (hash_bucket b) (order_in b) k
