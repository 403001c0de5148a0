-- Prepared b s hs m w   what a searcher keeps of its book b: the ids in buckets s, the hashes hs of its patterns by id, the length m of what is
--                       hashed, and by how much w the first byte counts
use Rattle.std.specs.Prelude.{◌≡◌, ℕ, ◌<◌, List, slice_index}
use Rattle.rules.specs.Limits.{hash_buckets}
use Rattle.rules.specs.Book.{Book, count_of, shortest}
use Rattle.rabinkarp.specs.declared.buckets.Buckets.{Buckets}
use Rattle.rabinkarp.specs.Hash.{leading}
use Rattle.rabinkarp.specs.Buckets.{bucket_ids}
use Rattle.rabinkarp.specs.Prefixes.{prefix_hash, bucket_in}

pub record Prepared (b : Book) (s : Buckets) (hs : List ℕ) (m w : ℕ) : Type 0 where
  pub measured : m ≡ shortest b
  pub counted : w ≡ leading m
  pub hashed : (i : ℕ) → i < count_of b → slice_index hs i ≡ prefix_hash b i
  pub placed : (k : ℕ) → k < hash_buckets → bucket_ids s k ≡ bucket_in b k
