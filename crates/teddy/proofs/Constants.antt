-- The constant of the code is the number of the rules.
use Rattle.std.proofs.Common.{◌≡◌, refl}
use Rattle.rules.specs.Limits.{mask_buckets}
use Rattle.teddy.specs.declared.bucket.TheConstants.{BUCKETS}

buckets_is : BUCKETS ≡ mask_buckets
buckets_is = refl
