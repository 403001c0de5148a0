-- The constant of the code is the number of the rules.
use Rattle.std.proofs.Common.{◌≡◌, refl}
use Rattle.rules.specs.Limits.{hash_buckets}
use Rattle.rabinkarp.specs.declared.buckets.TheConstants.{NUM_BUCKETS}

buckets_is : NUM_BUCKETS ≡ hash_buckets
buckets_is = refl
