-- What a mask searcher keeps of its book.
-- nearest c b            the permitted mask count that is nearest to c: from 1 to max_masks, and not above the shortest length of b
-- MaskIs g j m           the byte tables m are mask j of g
-- BelongTo g buckets masks   the buckets and the masks are those of g, and at least one mask is used, and no more than `front`
use Rattle.std.specs.Prelude.{◌≡◌, ℕ, ◌<◌, ◌≤◌, min, max}
use Rattle.rules.specs.Limits.{mask_buckets}
use Rattle.rules.specs.Book.{Book}
use Rattle.rabinkarp.specs.declared.buckets.Buckets.{Buckets}
use Rattle.rabinkarp.specs.Buckets.{bucket_ids, in_bucket}
use Rattle.teddy.specs.declared.mask_table.MaskTable.{MaskTable}
use Rattle.teddy.specs.declared.candidate.Masks.{Masks}
use Rattle.teddy.specs.Buckets.{front, Groups}
use Rattle.teddy.specs.Masks.{low_mask, high_mask}

abbrev pub nearest : ℕ → Book → ℕ
nearest c b = min (max c 1) (front b)

pub record MaskIs (g : Groups) (j : ℕ) (m : MaskTable) : Type 0 where
  pub lo : m.lo ≡ low_mask g j
  pub hi : m.hi ≡ high_mask g j

pub record BelongTo (g : Groups) (buckets : Buckets) (masks : Masks MaskTable) : Type 0 where
  pub some : 0 < masks.count
  pub few : masks.count ≤ front g.book
  pub placed : (k : ℕ) → k < mask_buckets → bucket_ids buckets k ≡ in_bucket g.bucket g.ids k
  pub first : MaskIs g 0 masks.first
  pub second : MaskIs g 1 masks.second
  pub third : MaskIs g 2 masks.third
  pub fourth : MaskIs g 3 masks.fourth
